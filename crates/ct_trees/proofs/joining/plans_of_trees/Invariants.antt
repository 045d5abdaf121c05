use Rattle.std.proofs.Common.{◌≡◌, ◌≤◌, length}
use Rattle.std.specs.Prelude.{vec_len}
use Rattle.std.specs.Vec.{vec_capacity}
use Rattle.ct_trees.specs.Trees.{plans_of}
use Rattle.ct_trees.proofs.joining.plans_of_trees.Given as goal

abbrev pub invariant-loop-tree : goal.invariant-loop-tree
invariant-loop-tree l = record {
  items : l.room.items ≡ plans_of l.yielded;
  len : vec_len l.room ≡ length l.yielded;
  room : length l.fn.trees ≤ vec_capacity l.room;
}
