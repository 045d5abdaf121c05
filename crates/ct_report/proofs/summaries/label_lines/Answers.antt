use Rattle.std.proofs.Common.{◌≡◌, ◌∙◌, ap, subst, ℕ, List, IfOk}
use Rattle.ct_history.specs.declared.plan.PlanTest.{PlanTest}
use Rattle.ct_report.specs.Report.{labels_in_order}
use Rattle.ct_report.proofs.TotalLemmas.{lines_are}
use Rattle.ct_report.proofs.summaries.label_lines.Goals as goal

pub returns : goal.returns
returns c =
    let names : c.as_slice-2.result.now ≡ labels_in_order c.args.plan.now.tests = c.as_slice-2.ensures ∙ c.in_ok-labels.ensures ∙ ap (λ (ts : List PlanTest). labels_in_order ts) c.as_slice.ensures in
    subst (λ (want : List (List ℕ)). IfOk c.lines_of_labels.result (λ lines. lines ≡ want)) (lines_are c.args.plan.now c.args.entries.now c.args.totals.now c.as_slice-2.result.now c.requires names) c.lines_of_labels.ensures
