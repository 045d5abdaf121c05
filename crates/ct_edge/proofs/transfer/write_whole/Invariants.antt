use Rattle.std.proofs.Common.{◌≡◌, ℕ, List, ◌++◌}
use Rattle.ct_base.specs.Outside.{Adds, Becomes}
use Rattle.ct_edge.proofs.transfer.write_whole.Given as goal

abbrev pub invariant-loop : goal.invariant-loop
invariant-loop g l =
    (sent : List ℕ) × (l.piece ≡ sent ++ l.left) × Becomes (g.W.Write.contents l.initial.writer) (g.W.Write.contents l.writer) (Adds sent)
