use Rattle.ct_trees.proofs.TreeFilesLemmas.{tree_fails, tree_lacks, tree_served}
use Rattle.ct_trees.proofs.tree_files.write_tree.Goals as goal

pub returns-in-Ok-clause-written : goal.returns-in-Ok-clause-written
returns-in-Ok-clause-written g c =
    tree_served c.args.place c.args.tree.now c.args.part.now.entries.items (g.F.Files.tells c.args.files.now) (g.F.Files.tells c.write_files.new.files) c.in-Ok.ensures.written

pub returns-in-Err-Failed-clause-written : goal.returns-in-Err-Failed-clause-written
returns-in-Err-Failed-clause-written g c =
    tree_fails c.args.place c.args.tree.now c.args.part.now.entries.items (g.F.Files.tells c.args.files.now) (g.F.Files.tells c.write_files.new.files) c.in-Err-Failed.path
    (rw c.in-Err-Failed.field-0-is at c.in-Err-Failed.ensures.written)

pub returns-in-Err-NoMemory-clause-written : goal.returns-in-Err-NoMemory-clause-written
returns-in-Err-NoMemory-clause-written g c =
    tree_lacks c.args.place c.args.tree.now c.args.part.now.entries.items (g.F.Files.tells c.args.files.now) (g.F.Files.tells c.write_files.new.files)
    (rw c.in-Err-NoMemory.field-0-is at c.in-Err-NoMemory.ensures.written)
