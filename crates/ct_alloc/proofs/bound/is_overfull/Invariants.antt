use Rattle.ct_alloc.proofs.bound.is_overfull.Given as goal

abbrev pub invariant-loop-at : goal.invariant-loop-at
invariant-loop-at l = Unit {0}
