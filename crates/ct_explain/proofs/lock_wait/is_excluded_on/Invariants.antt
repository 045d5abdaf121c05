use Rattle.std.proofs.Common.{◌≡◌, drop}
use Rattle.ct_history.specs.Course.{runs}
use Rattle.ct_explain.specs.Waits.{is_excluded_on}
use Rattle.ct_explain.proofs.lock_wait.is_excluded_on.Given as goal

abbrev pub invariant-loop-at : goal.invariant-loop-at
invariant-loop-at l = is_excluded_on l.plan.tests l.test (runs (drop l.at l.starts)) l.lock ≡ is_excluded_on l.plan.tests l.test (runs l.starts) l.lock
