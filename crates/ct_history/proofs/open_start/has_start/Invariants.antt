use Rattle.std.proofs.Common.{◌≡◌, ◌+◌, ◌-◌, ◌^◌, ◌≤◌, min, drop}
use Rattle.ct_history.specs.Course.{runs}
use Rattle.ct_history.specs.Seen.{has_start}
use Rattle.ct_history.proofs.open_start.has_start.Given as goal

abbrev pub invariant-loop-at : goal.invariant-loop-at
invariant-loop-at l = has_start l.test l.attempt l.worker (runs (drop l.at l.running)) ≡ has_start l.test l.attempt l.worker (runs l.running)
