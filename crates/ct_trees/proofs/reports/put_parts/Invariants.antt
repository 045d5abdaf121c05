use Rattle.ct_trees.proofs.PutTreeLemmas.{AreSummariesTo}
use Rattle.ct_trees.proofs.reports.put_parts.Given as goal

abbrev pub invariant-loop-at : goal.invariant-loop-at
invariant-loop-at g l = AreSummariesTo l.trees l.parts l.at (g.S.Sink.tells l.initial.sink) (g.S.Sink.tells l.sink)
