use Rattle.std.proofs.Common.{◌≡◌, ◌+◌, ◌-◌, ◌^◌, ◌≤◌, min, drop}
use Rattle.ct_history.specs.Course.{runs}
use Rattle.ct_history.specs.Seen.{is_excluded_by}
use Rattle.ct_history.proofs.open_start.is_excluded.Given as goal

abbrev pub invariant-loop-at : goal.invariant-loop-at
invariant-loop-at l = is_excluded_by l.tests l.test (runs (drop l.at l.running)) ≡ is_excluded_by l.tests l.test (runs l.running)
