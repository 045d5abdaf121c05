use Rattle.std.proofs.Common.{rules, ◌≡◌, ◌∙◌, ap, List, Err, Ok}
use Rattle.ct_history.specs.declared.plan.PlanParts.{PlanParts}
use Rattle.ct_history.specs.declared.history.Entry.{Entry}
use Rattle.ct_report.specs.PutLines.{PutsLines}
use Rattle.ct_report.specs.Report.{summary_lines}
use Rattle.ct_report.proofs.PutLemmas.{lines_as}
use Rattle.ct_app.proofs.run.put_summary.Goals as goal

pub returns : goal.returns
returns g c =
    let old = g.S.Sink.tells c.args.sink.now in
    let new = g.S.Sink.tells c.summary.new.sink in
    let same = ap (λ (p : PlanParts). summary_lines p c.history.result.now.entries.items) c.plan.ensures ∙ ap (λ (es : List Entry). summary_lines c.args.core.now.plan es) c.history.ensures.is in
    let put : PutsLines (summary_lines c.plan.result.now c.history.result.now.entries.items) old new (Ok tt) = record { bytes = c.in_ok-summary.ensures.text; each = c.in_ok-summary.ensures.each } in
    lines_as same put

pub returns-in_err-summary : goal.returns-in_err-summary
returns-in_err-summary g c =
    let old = g.S.Sink.tells c.args.sink.now in
    let new = g.S.Sink.tells c.summary.new.sink in
    let fault = c.in_err-summary.field-0.0 in
    let same = ap (λ (p : PlanParts). summary_lines p c.history.result.now.entries.items) c.plan.ensures ∙ ap (λ (es : List Entry). summary_lines c.args.core.now.plan es) c.history.ensures.is in
    let put : PutsLines (summary_lines c.plan.result.now c.history.result.now.entries.items) old new (Err fault) = record { bytes = c.in_err-summary.ensures.text; each = c.in_err-summary.ensures.each } in
    let gave : c.from_residual.result ≡ Err fault = search rules in
    rw gave (lines_as same put)
