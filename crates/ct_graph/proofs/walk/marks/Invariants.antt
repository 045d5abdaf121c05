use Rattle.std.proofs.Common.{◌≡◌, [], true, take}
use Rattle.ct_graph.specs.Walk.{Keeps, are_taken}
use Rattle.ct_graph.proofs.walk.marks.Given as goal

abbrev pub invariant-loop-test : goal.invariant-loop-test
invariant-loop-test l = Keeps l.rows l.walk × (l.walk.path.items ≡ []) × (are_taken l.walk.marks.items (take l.test-index l.members) ≡ true)
