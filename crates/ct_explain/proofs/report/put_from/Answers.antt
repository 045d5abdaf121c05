use Rattle.std.proofs.Common.{rules, ◌≡◌, ◌∷◌, [], Err}
use Rattle.std.specs.Prelude.{None}
use Rattle.ct_explain.specs.Report.{attempt_line, waited_lines}
use Rattle.ct_report.proofs.PutLemmas.{lines_more, lines_then}
use Rattle.ct_explain.proofs.report.put_from.Goals as goal

pub returns-in_err-put_attempt : goal.returns-in_err-put_attempt
returns-in_err-put_attempt g c =
    let gave : c.from_residual.result ≡ Err c.in_err-put_attempt.field-0.0 = search rules in
    rw gave (lines_more (g.S.Sink.tells c.args.sink.now) (g.S.Sink.tells c.put_attempt.new.sink) (attempt_line c.args.plan.now c.args.first.now None ∷ []) (waited_lines c.args.plan.now c.args.waits.now 0 c.args.others.now) c.in_err-put_attempt.field-0.0 c.in_err-put_attempt.ensures)

pub returns : goal.returns
returns g c =
    lines_then (g.S.Sink.tells c.args.sink.now) (g.S.Sink.tells c.put_attempt.new.sink) (g.S.Sink.tells c.put_waited.new.sink) (attempt_line c.args.plan.now c.args.first.now None ∷ []) (waited_lines c.args.plan.now c.args.waits.now 0 c.args.others.now) c.put_waited.result c.in_ok-put_attempt.ensures c.put_waited.ensures
