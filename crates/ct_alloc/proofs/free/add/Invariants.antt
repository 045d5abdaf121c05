use Rattle.std.proofs.Common.{drop}
use Rattle.ct_alloc.proofs.PickLemmas.{IsAdding}
use Rattle.ct_alloc.proofs.free.add.Given as goal

abbrev pub invariant-loop-pick : goal.invariant-loop-pick
invariant-loop-pick l = IsAdding l.used l.initial.used l.picks (drop l.pick-index l.picks)
