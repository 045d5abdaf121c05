use Rattle.std.proofs.Common.{rules, ◌≡◌, ◌∙◌, ap, subst, flat_map}
use Rattle.ct_history.specs.Course.{AreCourses}
use Rattle.ct_cost.specs.Endings.{log_by}
use Rattle.ct_cost.proofs.EndingLemmas.{log_after}
use Rattle.ct_cost.proofs.log.failed_log.Goals as goal

pub returns : goal.returns
returns c =
    let courses = c.in_ok-courses.courses in
    let plan = c.args.plan.now in
    let tests : c.as_slice-2.result.now ≡ plan.tests = search rules in
    let entries : c.as_slice.result.now ≡ c.args.history.now.entries.items = search rules in
    let are : AreCourses courses c.args.history.now.entries.items = subst (AreCourses courses) entries c.in_ok-courses.ensures.are in
    let same = ap (flat_map (log_by courses)) tests ∙ log_after courses plan.repeat c.args.history.now.entries.items are plan.tests c.requires.ended in
    rw (← same) c.log_of.ensures
