use Rattle.std.proofs.Common.{drop}
use Rattle.ct_history.specs.declared.plan.PlanTest.{PlanTest}
use Rattle.ct_history.specs.Plan.{AllAscend}
use Rattle.tests_samples.proofs.plans.setups_ascend.Given as goal

abbrev pub invariant-loop-test : goal.invariant-loop-test
invariant-loop-test l = AllAscend (λ (t : PlanTest). t.setups) (drop l.test-index l.tests) → AllAscend (λ (t : PlanTest). t.setups) l.tests
