use Rattle.std.proofs.Common.{◌∙◌, ap, subst, List}
use Rattle.ct_history.specs.Plan.{IsPlaceOf}
use Rattle.ct_history.specs.declared.plan.PlanTest.{PlanTest}
use Rattle.ct_history.specs.declared.plan.PlanParts.{PlanParts}
use Rattle.ct_core.specs.Run.{history_of_run}
use Rattle.ct_core.proofs.ChoiceLemmas.{passed_there}
use Rattle.ct_core.proofs.run.Run.has_passed.Goals as goal

pub returns-in-Some : goal.returns-in-Some
returns-in-Some c =
    let run = c.args.self.now in
    let tests = c.as_slice.ensures ∙ ap (λ (p : PlanParts). p.tests) c.parts.ensures.is in
    let here = subst (λ (ts : List PlanTest). IsPlaceOf ts c.args.number c.in-Some.place) tests c.in-Some.ensures in
    c.has_passed.ensures ∙ passed_there run.plan (history_of_run run) run.parts c.args.number c.in-Some.place c.index.result.now c.requires here c.index.ensures
