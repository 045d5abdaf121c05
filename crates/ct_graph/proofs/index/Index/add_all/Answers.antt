use Rattle.ct_graph.proofs.IndexLemmas.{adds_more}
use Rattle.ct_graph.proofs.index.Index.add_all.Goals as goal

pub loop-number-preserved : goal.loop-number-preserved
loop-number-preserved c =
    let old = c.args.self.now in
    adds_more old.defs.now old.props.now old.members.now c.loop-number.number-index c.loop-number.self c.add.new.self c.loop-number-test.true c.loop-number.invariant c.in_ok-add.ensures
