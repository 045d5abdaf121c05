use Rattle.std.proofs.Common.{◌≡◌, ◌+◌, ◌++◌, drop, map, Some}
use Rattle.ct_plan.specs.Whole.{defined_in}
use Rattle.ct_plan.proofs.TreeStandingLemmas.{told_standings}
use Rattle.ct_plan.proofs.whole.whole_standings.Given as goal

abbrev pub invariant-loop-tree : goal.invariant-loop-tree
invariant-loop-tree l = record {
  made : map Some l.standings.items ++ told_standings l.offset (drop l.tree-index l.trees) ≡ told_standings 0 l.trees;
  counted : l.offset + defined_in (drop l.tree-index l.trees) ≡ defined_in l.trees;
}
