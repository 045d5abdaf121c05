use Rattle.std.proofs.Common.{◌≡◌, drop, filter, fold, map, Some}
use Rattle.ct_history.specs.Plan.{test_at}
use Rattle.ct_history.specs.History.{Running}
use Rattle.ct_history.specs.Course.{runs}
use Rattle.ct_explain.specs.Waits.{exclude_on, least_open, lesser}
use Rattle.ct_explain.proofs.lock_wait.least_on.Given as goal

abbrev pub invariant-loop-at : goal.invariant-loop-at
invariant-loop-at l = fold lesser l.least (filter (λ x. exclude_on l.lock (Some l.test) (test_at l.plan.tests x)) (map (λ (r : Running). r.test) (runs (drop l.at l.starts)))) ≡ least_open (λ x. exclude_on l.lock (Some l.test) (test_at l.plan.tests x)) (runs l.starts)
