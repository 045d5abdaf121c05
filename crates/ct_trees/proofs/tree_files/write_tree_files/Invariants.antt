use Rattle.ct_trees.proofs.TreeFilesLemmas.{AreWrittenTo}
use Rattle.ct_trees.proofs.tree_files.write_tree_files.Given as goal

abbrev pub invariant-loop-at : goal.invariant-loop-at
invariant-loop-at g l = AreWrittenTo l.trees l.parts l.at l.failed (g.F.Files.tells l.initial.files) (g.F.Files.tells l.files)
