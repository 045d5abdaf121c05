use Rattle.std.proofs.Common.{rules, ◌≡◌, ◌∙◌, sym, ap, true, length, [], ◌∷◌, ◌==◌, Err, Ok}
use Rattle.std.specs.Prelude.{codes}
use Rattle.ct_history.specs.declared.plan.PlanParts.{PlanParts}
use Rattle.ct_report.specs.Report.{header_line}
use Rattle.ct_report.proofs.PutLemmas.{lines_as, one_line}
use Rattle.ct_app.proofs.ReportLemmas.{header_fails, none_puts}
use Rattle.ct_app.proofs.run.begin.Goals as goal

pub returns-in_err-header : goal.returns-in_err-header
returns-in_err-header g c =
    let old = g.S.Sink.tells c.args.sink.now in
    let new = g.S.Sink.tells c.header.new.sink in
    let fault = c.in_err-header.field-0.0 in
    let head = lines_as (ap (λ (p : PlanParts). header_line p ∷ []) c.plan.ensures) (one_line old new _ (Err fault) c.in_err-header.ensures.text c.in_err-header.ensures.each) in
    let gave : c.from_residual.result ≡ Err fault = search rules in
    rw gave (λ entries. header_fails c.args.core.now.plan entries old new fault head)

pub returns-then-is_empty : goal.returns-then-is_empty
returns-then-is_empty g c =
    let old = g.S.Sink.tells c.args.sink.now in
    let mid = g.S.Sink.tells c.header.new.sink in
    let new = g.S.Sink.tells c.no_tests.new.sink in
    let head = lines_as (ap (λ (p : PlanParts). header_line p ∷ []) c.plan.ensures) (one_line old mid _ (Ok tt) c.in_ok-header.ensures.text c.in_ok-header.ensures.each) in
    let line = one_line mid new (codes "No tests were found!!!\n") (Ok tt) c.in_ok-no_tests.ensures.text c.in_ok-no_tests.ensures.each in
    let none : (length c.args.core.now.plan.tests == 0) ≡ true = ap (λ (p : PlanParts). length p.tests == 0) (sym (c.parts.ensures.is ∙ c.plan-2.ensures)) ∙ sym c.is_empty.ensures ∙ c.if-is_empty.true in (
      (λ entries. none_puts c.args.core.now.plan entries none old mid new (Ok tt) head line),
      none,
    )
