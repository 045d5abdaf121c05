use Rattle.std.proofs.Common.{rules, ◌≡◌, ◌∙◌, ◌<◌, ap, length, get_or}
use Rattle.ct_history.specs.declared.course.Course.{Course}
use Rattle.ct_history.specs.Course.{course_after}
use Rattle.ct_history.proofs.CourseLemmas.{course_more}
use Rattle.ct_history.proofs.course.course_in.Goals as goal

pub loop-entry-preserved : goal.loop-entry-preserved
loop-entry-preserved c =
    let within : c.loop-entry.entry-index < length c.args.entries.now = search rules in
    let is : c.entry-item.result ≡ get_or c.args.entries.now c.loop-entry.entry-index c.entry-item.result = search rules in
    c.course_after-course.ensures
    ∙ ap (λ (course : Course). course_after c.args.test course c.entry-item.result) c.loop-entry.invariant
    ∙ course_more c.args.entries.now c.loop-entry.entry-index c.entry-item.result c.args.test within is
