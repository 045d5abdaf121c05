use Rattle.ct_queue.proofs.BuildLemmas.{AreBegun}
use Rattle.ct_queue.proofs.members.first_spots.Given as goal

abbrev pub invariant-loop-line : goal.invariant-loop-line
invariant-loop-line l = AreBegun l.fn.lines l.line l.before l.firsts.items
