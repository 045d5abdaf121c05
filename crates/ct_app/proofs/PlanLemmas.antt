-- The tests of a plan are among the tests of its source.
use Rattle.std.proofs.Common.{◌≡◌, ◌∙◌, sym, ap, subst, Bool, ℕ, ◌≤◌, List, [], ◌∷◌, length, arith, inl, inr}
use Rattle.std.specs.Prelude.{Some, ◌==◌, cond}
use Rattle.std.proofs.lemmas.Bool.{cases_Bool}
use Rattle.std.proofs.lemmas.Bool.Decides.{nat_tests}
use Rattle.ct_base.specs.declared.defs.TestDef.{TestDef}
use Rattle.ct_props.proofs.NumberedLemmas.{number_within}
use Rattle.ct_props.specs.declared.props.Props.{Props}
use Rattle.ct_history.specs.declared.plan.PlanTest.{PlanTest}
use Rattle.ct_history.specs.declared.plan.PlanParts.{PlanParts}
use Rattle.ct_history.specs.Plan.{test_at}
use Rattle.ct_plan.specs.PlanOf.{IsPlanOf}
use Rattle.ct_plan.specs.Planned.{ArePlannedTests, IsPlannedTest}
use Rattle.ct_plan.specs.Source.{HaveProps, Source, run_members}
use Rattle.ct_worker.specs.declared.jobs.Jobs.{Jobs}
use Rattle.ct_worker.specs.Work.{Reach}
use Rattle.ct_plan.proofs.CallerLemmas.{length-have_props}

-- a test that is found is planned by its number
planned_at : (s : Source) (numbers : List ℕ) (tests : List PlanTest) → ArePlannedTests s numbers tests → (n : ℕ) (t : PlanTest) → test_at tests n ≡ Some t → IsPlannedTest s n t
planned_at s [] [] are n t found = cc
planned_at s [] (x ∷ xs) are n t found = absurd are
planned_at s (m ∷ ms) [] are n t found = absurd are
planned_at s (m ∷ ms) (x ∷ xs) are n t found = elim (cases_Bool (x.number == n)) [
  | inl here ↦
      let both : Some x ≡ Some t = sym (ap (λ (b : Bool). cond b (Some x) (test_at xs n)) here) ∙ found in
      let same : x ≡ t = cc in
      let number : x.number ≡ m = ap (λ (u : PlanTest). u.number) are.0.is in
      let wanted : x.number ≡ n = grind (arith, nat_tests) in
      subst (λ (u : PlanTest). IsPlannedTest s n u) same (subst (λ (k : ℕ). IsPlannedTest s k x) (sym number ∙ wanted) are.0)
  | inr other ↦ planned_at s ms xs are.1 n t (sym (ap (λ (b : Bool). cond b (Some x) (test_at xs n)) other) ∙ found)
]

-- the jobs of the tests that a plan was made of reach each test of the plan
pub reaches : (s : Source) (jobs : Jobs) (plan : PlanParts) → jobs.defs.now ≡ s.defs → length jobs.props.now ≡ length s.props → HaveProps s.defs s.props → IsPlanOf s plan → Reach jobs plan
reaches s jobs plan defs_are counted have is = record {
  paired = counted ∙ length-have_props s.defs s.props have ∙ ap (λ (defs : List TestDef). length defs) (sym defs_are);
  low = λ number t found. let planned = planned_at s (run_members s) plan.tests is.tests number t found in (number_within s.defs number planned.def planned.def_is).0;
  within = λ number t found.
      let planned = planned_at s (run_members s) plan.tests is.tests number t found in
      subst (λ (defs : List TestDef). number ≤ length defs) (sym defs_are) (number_within s.defs number planned.def planned.def_is).1;
}
