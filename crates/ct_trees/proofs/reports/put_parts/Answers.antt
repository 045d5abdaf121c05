use Rattle.std.proofs.Common.{rules, ◌≡◌, sym, subst, Err, Ok}
use Rattle.ct_report.specs.PutLines.{PutsLines}
use Rattle.ct_trees.specs.declared.joining.TreeRest.{TreeRest}
use Rattle.ct_trees.specs.TreeReports.{tree_lines}
use Rattle.ct_trees.proofs.PutTreeLemmas.{summary_fails, summary_next}
use Rattle.ct_trees.proofs.TreeFilesLemmas.{part_there}
use Rattle.ct_trees.proofs.reports.put_parts.Goals as goal

pub loop-at-preserved : goal.loop-at-preserved
loop-at-preserved g c =
    let trees = c.args.trees.now in
    let parts = c.args.parts.now in
    let at = c.loop-at.at in
    let tree = c.index-trees-at.result in
    let part = c.index-parts-at.result in
    let mid = g.S.Sink.tells c.loop-at.sink in
    let new = g.S.Sink.tells c.put_tree.new.sink in
    let put = subst (λ (t : TreeRest). PutsLines (tree_lines t.plan part.entries.items) mid new (Ok tt)) (sym c.index-trees-at.is) c.in_ok-put_tree.ensures in
    summary_next trees parts at (g.S.Sink.tells c.args.sink.now) mid c.loop-at.invariant
    tree part c.loop-at-test.true c.index-trees-at.is (part_there trees parts at c.requires.ended c.loop-at-test.true) c.index-parts-at.is new put

pub returns-in_err-put_tree : goal.returns-in_err-put_tree
returns-in_err-put_tree g c =
    let trees = c.args.trees.now in
    let parts = c.args.parts.now in
    let at = c.loop-at.at in
    let tree = c.index-trees-at.result in
    let part = c.index-parts-at.result in
    let mid = g.S.Sink.tells c.loop-at.sink in
    let new = g.S.Sink.tells c.put_tree.new.sink in
    let fault = c.in_err-put_tree.field-0.0 in
    let put = subst (λ (t : TreeRest). PutsLines (tree_lines t.plan part.entries.items) mid new (Err fault)) (sym c.index-trees-at.is) c.in_err-put_tree.ensures in
    let gave : c.from_residual.result ≡ Err fault = search rules in
    rw gave (summary_fails trees parts at (g.S.Sink.tells c.args.sink.now) mid c.loop-at.invariant
    tree part c.loop-at-test.true c.index-trees-at.is (part_there trees parts at c.requires.ended c.loop-at-test.true) c.index-parts-at.is new fault put)
