use Rattle.std.proofs.Common.{rules, ◌<◌, length, sym, ◌∙◌}
use Rattle.ct_select.proofs.MatcherLemmas.{put_back, others_decide}
use Rattle.ct_select.proofs.patterns.hit_labels.Goals as goal

pub returns-then-not-hits_label-clause-kept : goal.returns-then-not-hits_label-clause-kept
returns-then-not-hits_label-clause-kept c =
    let within : c.loop-i.i < length c.loop-i.matchers = search rules in
    put_back c.loop-i.matchers c.loop-i.i c.hits_label.new.matcher c.index-matchers-i.result c.hits_label.ensures.kept within ∙ c.loop-i.invariant.kept

pub loop-i-preserved : goal.loop-i-preserved
loop-i-preserved c =
    let within : c.loop-i.i < length c.loop-i.matchers = search rules in
    record {
      same = others_decide c.args.labels.now c.loop-i.matchers c.loop-i.i c.hits_label.new.matcher c.index-matchers-i.result (sym c.hits_label.ensures.hit ∙ search rules) within
          ∙ c.loop-i.invariant.same;
      kept = put_back c.loop-i.matchers c.loop-i.i c.hits_label.new.matcher c.index-matchers-i.result c.hits_label.ensures.kept within ∙ c.loop-i.invariant.kept;
    }
