use Rattle.std.proofs.Common.{◌≡◌}
use Rattle.ct_load.specs.Tree.{tree_text}
use Rattle.ct_load.proofs.tree.tree_text.Given as goal

abbrev pub invariant-loop-before : goal.invariant-loop-before
invariant-loop-before l = l.text.items ≡ tree_text l.before
