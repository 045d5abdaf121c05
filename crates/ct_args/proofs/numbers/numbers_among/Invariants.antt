use Rattle.std.proofs.Common.{◌≡◌, ◌++◌, drop}
use Rattle.ct_args.specs.Values.{numbers_among}
use Rattle.ct_args.proofs.numbers.numbers_among.Given as goal

abbrev pub invariant-loop-entry : goal.invariant-loop-entry
invariant-loop-entry l = l.numbers ++ numbers_among (drop l.entry-index l.entries) ≡ numbers_among l.entries
