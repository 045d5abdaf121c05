use Rattle.std.proofs.Common.{drop}
use Rattle.ct_graph.specs.Found.{AreMarked}
use Rattle.ct_graph.proofs.found.unmark.Given as goal

abbrev pub invariant-loop-test : goal.invariant-loop-test
invariant-loop-test l = AreMarked l.marks.items (drop l.test-index l.tests)
