use Rattle.std.proofs.Common.{◌≡◌, ◌+◌, ◌-◌, ◌^◌, ◌≤◌, min, drop}
use Rattle.ct_history.specs.Course.{runs}
use Rattle.ct_history.specs.Seen.{processors_used}
use Rattle.ct_history.proofs.open_start.used_processors.Given as goal

abbrev pub invariant-loop-at : goal.invariant-loop-at
invariant-loop-at l = (min (l.used + processors_used l.tests (runs (drop l.at l.running))) (2 ^ 64 - 1) ≡ min (processors_used l.tests (runs l.running)) (2 ^ 64 - 1)) × (l.used ≤ 2 ^ 64 - 1)
