use Rattle.std.proofs.Common.{◌≡◌, [], take}
use Rattle.ct_trees.specs.Spans.{parts_in}
use Rattle.ct_trees.specs.TreeParts.{entries_of_each}
use Rattle.ct_trees.proofs.tree_parts.empty_parts.Given as goal

abbrev pub invariant-loop-at : goal.invariant-loop-at
invariant-loop-at l = entries_of_each l.parts.items ≡ parts_in (take l.at l.spans) []
