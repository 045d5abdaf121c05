use Rattle.std.proofs.Common.{rules, ◌≡◌, ◌<◌, length, get_or, take, subst}
use Rattle.std.proofs.lemmas.List.{take_all}
use Rattle.ct_history.specs.Course.{AreCourses}
use Rattle.ct_history.proofs.CourseLemmas.{courses_more, verdicts_told}
use Rattle.ct_history.proofs.course.courses_of.Goals as goal

pub loop-entry-preserved : goal.loop-entry-preserved
loop-entry-preserved c =
    let within : c.loop-entry.entry-index < length c.args.entries.now = search rules in
    let is : c.entry-item.result ≡ get_or c.args.entries.now c.loop-entry.entry-index c.entry-item.result = search rules in
    courses_more c.loop-entry.courses c.note_course.new.courses c.args.entries.now c.loop-entry.entry-index c.entry-item.result within is c.loop-entry.invariant c.in_ok-note_course.ensures

pub returns-clause-verdicts : goal.returns-clause-verdicts
returns-clause-verdicts c =
    let all : take c.loop-entry.entry-index c.args.entries.now ≡ c.args.entries.now = take_all c.loop-entry.entry-index c.args.entries.now c.loop-entry-test.false in
    verdicts_told c.loop-entry.courses c.args.entries.now (subst (AreCourses c.loop-entry.courses) all c.loop-entry.invariant)
