use Rattle.ct_explain.proofs.BarLemmas.{chained-more}
use Rattle.ct_explain.proofs.SinkLemmas.{item-of}
use Rattle.ct_explain.proofs.bar_lines.chained_of.Goals as goal

pub loop-at-preserved : goal.loop-at-preserved
loop-at-preserved c =
    let links = c.args.links.now in
    let at = c.loop-at.at in
    let link = c.link_at.result.now in
    chained-more links at link c.loop-at.chained c.note_end.new.chained c.loop-at-test.true (item-of links at link c.loop-at-test.true c.link_at.ensures) c.loop-at.invariant c.in_ok-note_end.ensures
