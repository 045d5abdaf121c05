use Rattle.std.proofs.Common.{drop}
use Rattle.ct_trees.specs.TreeReports.{header_lines}
use Rattle.ct_trees.proofs.PutTreeLemmas.{ArePutSoFar}
use Rattle.ct_trees.proofs.reports.put_headers.Given as goal

abbrev pub invariant-loop-tree : goal.invariant-loop-tree
invariant-loop-tree g l = ArePutSoFar (header_lines l.trees) (header_lines (drop l.tree-index l.trees)) (g.S.Sink.tells l.initial.sink) (g.S.Sink.tells l.sink)
