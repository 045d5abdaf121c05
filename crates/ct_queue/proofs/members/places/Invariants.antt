use Rattle.ct_queue.proofs.BuildLemmas.{AreFoundTo}
use Rattle.ct_queue.proofs.members.places.Given as goal

abbrev pub invariant-loop-place : goal.invariant-loop-place
invariant-loop-place l = AreFoundTo l.spots l.place l.places.items
