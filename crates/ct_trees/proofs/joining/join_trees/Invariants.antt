use Rattle.std.proofs.Common.{◌≡◌, ◌≤◌, length, map}
use Rattle.std.specs.Prelude.{IfOk, vec_len}
use Rattle.std.specs.Vec.{vec_capacity}
use Rattle.ct_trees.specs.Joining.{AreJoined}
use Rattle.ct_trees.specs.TreeReports.{rest_of}
use Rattle.ct_trees.proofs.joining.join_trees.Given as goal

abbrev pub invariant-loop-tree : goal.invariant-loop-tree
invariant-loop-tree l = record {
  joined : IfOk l.joined (AreJoined l.yielded);
  rests : l.room.items ≡ map rest_of l.yielded;
  len : vec_len l.room ≡ length l.yielded;
  room : length l.fn.trees ≤ vec_capacity l.room;
}
