use Rattle.std.proofs.Common.{drop}
use Rattle.ct_history.specs.Plan.{IsAscendingFrom}
use Rattle.tests_samples.proofs.plans.ascend.Given as goal

abbrev pub invariant-loop-number : goal.invariant-loop-number
invariant-loop-number l = IsAscendingFrom l.least (drop l.number-index l.numbers) → IsAscendingFrom 1 l.numbers
