use Rattle.std.proofs.Common.{◌≡◌, drop}
use Rattle.ct_history.specs.Course.{runs}
use Rattle.ct_history.specs.Seen.{is_busy_with}
use Rattle.ct_explain.proofs.wait.is_busy.Given as goal

abbrev pub invariant-loop-at : goal.invariant-loop-at
invariant-loop-at l = is_busy_with l.worker (runs (drop l.at l.starts)) ≡ is_busy_with l.worker (runs l.starts)
