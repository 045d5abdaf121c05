use Rattle.std.proofs.Common.{◌≡◌, [], replicate}
use Rattle.ct_graph.proofs.rows.empty_rows.Given as goal

abbrev pub invariant-loop-at : goal.invariant-loop-at
invariant-loop-at l = l.rows.items ≡ replicate l._at []
