use Rattle.std.proofs.Common.{◌≡◌, ℕ, map, take}
use Rattle.ct_history.specs.Plan.{test_at}
use Rattle.ct_core.specs.Begin.{count_before}
use Rattle.ct_core.proofs.begin.first_counts.Given as goal

abbrev pub invariant-loop-number : goal.invariant-loop-number
invariant-loop-number l = l.counts ≡ map (λ (n : ℕ). count_before (test_at l.plan.tests n)) (take l.number-index l.plan.queue)
