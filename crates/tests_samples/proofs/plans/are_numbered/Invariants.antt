use Rattle.std.proofs.Common.{drop}
use Rattle.std.specs.Prelude.{map}
use Rattle.ct_history.specs.declared.plan.PlanTest.{PlanTest}
use Rattle.ct_history.specs.Plan.{IsAscendingFrom}
use Rattle.tests_samples.proofs.plans.are_numbered.Given as goal

abbrev pub invariant-loop-test : goal.invariant-loop-test
invariant-loop-test l = IsAscendingFrom l.least (map (λ (t : PlanTest). t.number) (drop l.test-index l.tests)) → IsAscendingFrom 1 (map (λ (t : PlanTest). t.number) l.tests)
