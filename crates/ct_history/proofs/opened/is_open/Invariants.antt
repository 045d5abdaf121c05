use Rattle.std.proofs.Common.{◌≡◌, drop}
use Rattle.ct_history.specs.History.{is_open_in}
use Rattle.ct_history.proofs.opened.is_open.Given as goal

abbrev pub invariant-loop-at : goal.invariant-loop-at
invariant-loop-at l = is_open_in l.test (drop l.at l.entries) ≡ is_open_in l.test l.entries
