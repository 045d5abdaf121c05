use Rattle.std.proofs.Common.{rules, ◌≡◌, Err}
use Rattle.ct_trees.proofs.TreeFilesLemmas.{next_tree, part_there, tree_stops}
use Rattle.ct_trees.proofs.tree_files.write_tree_files.Goals as goal

pub loop-at-preserved : goal.loop-at-preserved
loop-at-preserved g c =
    let trees = c.args.trees.now in
    let parts = c.args.parts.now in
    let at = c.loop-at.at in
    let there = part_there trees parts at c.requires.ended c.loop-at-test.true in
    next_tree trees parts at c.loop-at.failed (g.F.Files.tells c.args.files.now) (g.F.Files.tells c.loop-at.files) c.loop-at.invariant
    c.index-trees-at.result c.index-parts-at.result c.loop-at-test.true c.index-trees-at.is there c.index-parts-at.is
    (g.F.Files.tells c.write_tree.new.files) c.in_ok-failed.field-0 c.in_ok-failed.ensures.written c.in_ok-failed.ensures.failed

pub returns-in_err-failed-clause-written : goal.returns-in_err-failed-clause-written
returns-in_err-failed-clause-written g c =
    let trees = c.args.trees.now in
    let parts = c.args.parts.now in
    let at = c.loop-at.at in
    let there = part_there trees parts at c.requires.ended c.loop-at-test.true in
    let fault = c.in_err-failed.field-0.0 in
    let gave : c.from_residual.result ≡ Err fault = search rules in
    rw gave (tree_stops trees parts at c.loop-at.failed (g.F.Files.tells c.args.files.now) (g.F.Files.tells c.loop-at.files) c.loop-at.invariant
    c.index-trees-at.result c.index-parts-at.result c.loop-at-test.true c.index-trees-at.is there c.index-parts-at.is
    (g.F.Files.tells c.write_tree.new.files) fault c.in_err-failed.ensures.written)
