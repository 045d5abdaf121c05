use Rattle.std.proofs.Common.{◌≡◌, true, take}
use Rattle.ct_graph.specs.Walk.{are_taken}
use Rattle.ct_graph.proofs.walk.Walk.first_untaken.Given as goal

abbrev pub invariant-loop-at : goal.invariant-loop-at
invariant-loop-at l = are_taken l.self.marks.items (take l.at l.row) ≡ true
