use Rattle.std.proofs.Common.{[], ◌≤◌, ◌+◌, length}
use Rattle.ct_edge.specs.Transfer.{Moves}
use Rattle.ct_edge.proofs.transfer.read_up_to.Given as goal

abbrev pub invariant-loop : goal.invariant-loop
invariant-loop g l = record {
  moved : Moves (g.R.Read.remaining l.initial.reader) [] (g.R.Read.remaining l.reader) l.bytes;
  bound : length l.bytes ≤ l.most + 1;
}
