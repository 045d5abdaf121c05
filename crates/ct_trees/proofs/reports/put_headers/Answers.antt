use Rattle.std.proofs.Common.{rules, ◌≡◌, Err}
use Rattle.ct_trees.proofs.PutTreeLemmas.{header_stops}
use Rattle.ct_trees.proofs.reports.put_headers.Goals as goal

pub returns-in_err-header : goal.returns-in_err-header
returns-in_err-header g c =
    let old = g.S.Sink.tells c.args.sink.now in
    let mid = g.S.Sink.tells c.loop-tree.sink in
    let new = g.S.Sink.tells c.header.new.sink in
    let fault = c.in_err-header.field-0.0 in
    let gave : c.from_residual.result ≡ Err fault = search rules in
    rw gave (header_stops c.args.trees.now c.loop-tree.tree-index old mid c.loop-tree.invariant c.tree-item.result c.loop-tree-test.true c.tree-item.is new fault c.in_err-header.ensures.text c.in_err-header.ensures.each)
