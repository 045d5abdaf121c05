use Rattle.std.proofs.Common.{◌≡◌, ◌++◌}
use Rattle.ct_trees.proofs.joining.append.Given as goal

abbrev pub invariant-loop-item : goal.invariant-loop-item
invariant-loop-item g l = l.list ≡ l.initial.list ++ l.yielded
