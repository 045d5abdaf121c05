use Rattle.ct_trees.proofs.SpanLemmas.{AreSpansSoFar}
use Rattle.ct_trees.proofs.tree_parts.spans_of.Given as goal

abbrev pub invariant-loop-tree : goal.invariant-loop-tree
invariant-loop-tree l = AreSpansSoFar l.trees l.tree-index l.offset l.spans
