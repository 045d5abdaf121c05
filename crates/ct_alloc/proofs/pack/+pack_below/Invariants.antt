use Rattle.std.proofs.Common.{length}
use Rattle.ct_alloc.proofs.RoomLemmas.{IsTriedFrom}
use Rattle.ct_alloc.proofs.pack.+pack_below.Given as goal

abbrev pub decreases-pack_below : goal.decreases-pack_below
decreases-pack_below l = length l.sizes.now

abbrev pub decreases-loop-card : goal.decreases-loop-card
decreases-loop-card l = l.below

abbrev pub invariant-loop-card : goal.invariant-loop-card
invariant-loop-card l = IsTriedFrom l.free l.initial.free l.sizes l.greatest l.below
