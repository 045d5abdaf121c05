use Rattle.std.proofs.Common.{◌≡◌, ◌∙◌, ◌<◌, ◌^◌, arith}
use Rattle.ct_history.specs.Seen.{verdict_of_course}
use Rattle.ct_history.proofs.CourseLemmas.{verdict_is}
use Rattle.ct_history.proofs.verdicts.verdict.Goals as goal

pub returns : goal.returns
returns c =
    let small : c.args.repeat.now.times < 2 ^ 32 = omega arith in
    c.verdict_of_course.ensures
    ∙ (λ i. verdict_of_course c.args.repeat.now c.args.test.now (c.is_open-is_open.ensures i) (c.course_in.ensures i))
    ∙ verdict_is c.args.repeat.now c.args.test.now c.args.entries.now small
