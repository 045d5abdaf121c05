use Rattle.ct_explain.specs.Picture.{mark_line}
use Rattle.ct_explain.proofs.SinkLemmas.{pushed-next}
use Rattle.ct_explain.proofs.frame.push_each.Goals as goal

pub loop-moment-preserved : goal.loop-moment-preserved
loop-moment-preserved c =
    pushed-next (mark_line c.args.length c.args.rows) c.args.marks.now c.loop-moment.moment-index 0 c.args.lines.now c.loop-moment.lines c.push.new.self _ c.loop-moment-test.true c.loop-moment.invariant c.in_ok-push.ensures.ok c.in_ok-line.ensures
