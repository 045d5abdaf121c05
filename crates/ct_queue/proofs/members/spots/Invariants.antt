use Rattle.ct_queue.proofs.BuildLemmas.{AreDealt}
use Rattle.ct_queue.proofs.members.spots.Given as goal

abbrev pub invariant-loop-line : goal.invariant-loop-line
invariant-loop-line l = AreDealt l.lines l.line-index l.next.items l.spots.items
