use Rattle.std.proofs.Common.{◌≡◌, ◌++◌, drop}
use Rattle.std.specs.Prelude.{map}
use Rattle.ct_history.specs.declared.plan.PlanTest.{PlanTest}
use Rattle.ct_history.specs.Plan.{enabled}
use Rattle.tests_samples.proofs.plans.enabled_numbers.Given as goal

abbrev pub invariant-loop-test : goal.invariant-loop-test
invariant-loop-test l = l.numbers.items ++ map (λ (t : PlanTest). t.number) (enabled (drop l.test-index l.tests)) ≡ map (λ (t : PlanTest). t.number) (enabled l.tests)
