use Rattle.std.proofs.Common.{rules, ◌≡◌, ◌∙◌, ap, subst, ℕ, List, Err}
use Rattle.ct_base.specs.declared.sink.SinkFault.TheVariants as Sinks
use Rattle.ct_base.specs.Outside.{Puts, PutsEach}
use Rattle.ct_history.specs.declared.plan.PlanParts.{PlanParts}
use Rattle.ct_history.specs.declared.history.Entry.{Entry}
use Rattle.ct_report.specs.Report.{summary_lines, text_of}
use Rattle.ct_report.proofs.PutLemmas.{each_none, puts_none}
use Rattle.ct_report.proofs.report.summary.Goals as goal

pub returns-in_err-lines-clause-text : goal.returns-in_err-lines-clause-text
returns-in_err-lines-clause-text g c =
    let gave : c.from_residual.result ≡ Err Sinks.NoMemory = search rules in
    rw gave (puts_none (g.S.Sink.tells c.args.sink.now) (text_of (summary_lines c.args.plan.now c.args.history.now.entries.items)))

pub returns-clause-text : goal.returns-clause-text
returns-clause-text g c =
    let plan = c.args.plan.now in
    let entries = c.args.history.now.entries.items in
    let same : c.as_slice-2.result.now ≡ summary_lines plan entries = c.as_slice-2.ensures ∙ c.in_ok-lines.ensures ∙ ap (λ (parts : PlanParts). summary_lines parts c.as_slice.result.now) c.parts.ensures.is ∙ ap (λ (es : List Entry). summary_lines plan es) c.as_slice.ensures.value in
    subst (λ (lines : List (List ℕ)). Puts (text_of lines) (g.S.Sink.tells c.args.sink.now) (g.S.Sink.tells c.put_lines.new.sink) c.put_lines.result) same c.put_lines.ensures.text

pub returns-in_err-lines-clause-each : goal.returns-in_err-lines-clause-each
returns-in_err-lines-clause-each g c =
    let gave : c.from_residual.result ≡ Err Sinks.NoMemory = search rules in
    rw gave (each_none (g.S.Sink.tells c.args.sink.now) (summary_lines c.args.plan.now c.args.history.now.entries.items))

pub returns-clause-each : goal.returns-clause-each
returns-clause-each g c =
    let plan = c.args.plan.now in
    let entries = c.args.history.now.entries.items in
    let same : c.as_slice-2.result.now ≡ summary_lines plan entries = c.as_slice-2.ensures ∙ c.in_ok-lines.ensures ∙ ap (λ (parts : PlanParts). summary_lines parts c.as_slice.result.now) c.parts.ensures.is ∙ ap (λ (es : List Entry). summary_lines plan es) c.as_slice.ensures.value in
    subst (λ (lines : List (List ℕ)). PutsEach lines (g.S.Sink.tells c.args.sink.now) (g.S.Sink.tells c.put_lines.new.sink) c.put_lines.result) same c.put_lines.ensures.each
