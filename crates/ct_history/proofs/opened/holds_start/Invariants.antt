use Rattle.std.proofs.Common.{◌≡◌, drop}
use Rattle.ct_history.specs.History.{holds_start}
use Rattle.ct_history.proofs.opened.holds_start.Given as goal

abbrev pub invariant-loop-at : goal.invariant-loop-at
invariant-loop-at l = holds_start l.test l.attempt l.worker (drop l.at l.entries) ≡ holds_start l.test l.attempt l.worker l.entries
