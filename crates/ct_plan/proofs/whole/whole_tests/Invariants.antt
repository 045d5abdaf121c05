use Rattle.std.proofs.Common.{◌≡◌, ◌+◌, ◌++◌, drop, take}
use Rattle.ct_plan.specs.Whole.{defined_in, tests_of_trees}
use Rattle.ct_plan.proofs.WholeLemmas.{AreSound}
use Rattle.ct_plan.proofs.whole.whole_tests.Given as goal

abbrev pub invariant-loop-tree : goal.invariant-loop-tree
invariant-loop-tree l = record {
  made : l.tests ++ tests_of_trees l.offset (drop l.tree-index l.trees) ≡ tests_of_trees 0 l.trees;
  counted : l.offset + defined_in (drop l.tree-index l.trees) ≡ defined_in l.trees;
  sound : AreSound (take l.tree-index l.trees);
}
