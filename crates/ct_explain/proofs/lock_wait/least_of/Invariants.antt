use Rattle.std.proofs.Common.{◌≡◌, drop, filter, fold}
use Rattle.std.specs.Option.{option_copied}
use Rattle.ct_history.specs.Course.{runs}
use Rattle.ct_explain.specs.Waits.{is_excluded_on, lesser_name}
use Rattle.ct_explain.proofs.lock_wait.least_of.Given as goal

abbrev pub invariant-loop-at : goal.invariant-loop-at
invariant-loop-at l = fold lesser_name (option_copied l.least) (filter (is_excluded_on l.plan.tests l.test (runs l.starts)) (drop l.at l.locks)) ≡ fold lesser_name (option_copied l.fn.least) (filter (is_excluded_on l.plan.tests l.test (runs l.starts)) l.locks)
