use Rattle.std.proofs.Common.{◌≡◌, drop}
use Rattle.ct_history.specs.History.{is_busy_in}
use Rattle.ct_history.proofs.opened.is_busy.Given as goal

abbrev pub invariant-loop-at : goal.invariant-loop-at
invariant-loop-at l = is_busy_in l.worker (drop l.at l.entries) ≡ is_busy_in l.worker l.entries
