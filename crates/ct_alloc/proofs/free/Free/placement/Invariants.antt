use Rattle.ct_alloc.proofs.PlaceLemmas.{PlacedSo}
use Rattle.ct_alloc.proofs.free.Free.placement.Given as goal

abbrev pub invariant-loop-at : goal.invariant-loop-at
invariant-loop-at l = PlacedSo l.self.resources l.needs l.places l.picks l.at
