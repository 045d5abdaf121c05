use Rattle.std.proofs.Common.{drop}
use Rattle.ct_alloc.proofs.PickLemmas.{IsTaking}
use Rattle.ct_alloc.proofs.free.subtract.Given as goal

abbrev pub invariant-loop-pick : goal.invariant-loop-pick
invariant-loop-pick l = IsTaking l.used l.initial.used l.picks (drop l.pick-index l.picks)
