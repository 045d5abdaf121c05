use Rattle.std.proofs.Common.{◌≡◌, take}
use Rattle.ct_start.specs.Start.{pairs_in}
use Rattle.ct_start.proofs.words.pairs_of.Given as goal

abbrev pub invariant-loop-name : goal.invariant-loop-name
invariant-loop-name l = l.pairs.items ≡ pairs_in (take l.name-index l.vars)
