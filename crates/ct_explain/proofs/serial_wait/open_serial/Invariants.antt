use Rattle.std.proofs.Common.{◌≡◌, drop, filter, fold, map}
use Rattle.std.specs.Prelude.{◌||◌}
use Rattle.ct_history.specs.Plan.{test_at}
use Rattle.ct_history.specs.History.{Running}
use Rattle.ct_history.specs.Rules.{is_serial}
use Rattle.ct_history.specs.Course.{runs}
use Rattle.ct_explain.specs.Waits.{lesser, open_serial}
use Rattle.ct_explain.proofs.serial_wait.open_serial.Given as goal

abbrev pub invariant-loop-at : goal.invariant-loop-at
invariant-loop-at l = fold lesser l.least (filter (λ x. l.test.serial || is_serial (test_at l.plan.tests x)) (map (λ (r : Running). r.test) (runs (drop l.at l.starts)))) ≡ open_serial l.plan.tests l.test (runs l.starts)
