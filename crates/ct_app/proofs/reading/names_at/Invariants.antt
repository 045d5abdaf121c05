use Rattle.std.proofs.Common.{◌≡◌, take}
use Rattle.ct_app.specs.Outcome.{names_at}
use Rattle.ct_app.proofs.reading.names_at.Given as goal

abbrev pub invariant-loop-number : goal.invariant-loop-number
invariant-loop-number l = l.names ≡ names_at l.defs (take l.number-index l.numbers)
