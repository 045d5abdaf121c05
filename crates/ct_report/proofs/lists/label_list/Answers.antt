use Rattle.std.proofs.Common.{◌≡◌, ◌∙◌, ap, subst, ℕ, List}
use Rattle.ct_base.specs.Outside.{PutsEach}
use Rattle.ct_report.specs.Lists.{label_list}
use Rattle.ct_report.proofs.lists.label_list.Goals as goal

pub returns-clause-each : goal.returns-clause-each
returns-clause-each g c =
    let same : c.as_slice-2.result.now ≡ label_list c.args.labels.now = c.as_slice-2.ensures ∙ c.in_ok-lines.ensures ∙ ap label_list c.as_slice.ensures in
    subst (λ (lines : List (List ℕ)). PutsEach lines (g.S.Sink.tells c.args.sink.now) (g.S.Sink.tells c.put_lines.new.sink) c.put_lines.result) same c.put_lines.ensures.each
