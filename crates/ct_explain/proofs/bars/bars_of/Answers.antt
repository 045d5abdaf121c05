use Rattle.ct_explain.specs.Bars.{bars}
use Rattle.ct_explain.proofs.BarLemmas.{bars-more, begins-more}
use Rattle.ct_explain.proofs.bars.bars_of.Goals as goal

pub loop-at-preserved : goal.loop-at-preserved
loop-at-preserved c =
    let at = c.loop-at.at in
    let entries = c.args.entries.now in
    let times = c.args.times.now in
    let entry = c.index-entries-at.result in
    record {
      bars = bars-more times entries at entry c.loop-at.begins c.loop-at.bars c.push_bar.new.bars (bars entries times) c.bar_at-bar.result c.loop-at-test.true c.index-entries-at.is c.loop-at.invariant.begins c.loop-at.invariant.bars c.bar_at-bar.ensures c.in_ok-push_bar.ensures;
      begins = begins-more entries at entry c.loop-at.begins c.note_begin.new.begins c.loop-at-test.true c.index-entries-at.is c.loop-at.invariant.begins c.in_ok-note_begin.ensures;
    }
