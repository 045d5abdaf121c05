use Rattle.std.proofs.Common.{◌≡◌, ◌≤◌, length, map}
use Rattle.std.specs.Prelude.{vec_len}
use Rattle.std.specs.Vec.{vec_capacity}
use Rattle.ct_trees.specs.declared.joining.TreeRest.{TreeRest}
use Rattle.ct_trees.proofs.joining.plans_of.Given as goal

abbrev pub invariant-loop-rest : goal.invariant-loop-rest
invariant-loop-rest l = record {
  items : l.room.items ≡ map (λ (r : TreeRest). r.plan) l.yielded;
  len : vec_len l.room ≡ length l.yielded;
  room : length l.fn.rests ≤ vec_capacity l.room;
}
