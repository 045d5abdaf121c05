use Rattle.std.proofs.Common.{rules, ◌≡◌, Err}
use Rattle.ct_explain.specs.Report.{attempt_lines, heading_lines}
use Rattle.ct_report.proofs.PutLemmas.{lines_more, lines_then}
use Rattle.ct_explain.proofs.report.put_chain.Goals as goal

pub returns-in_err-put_heading : goal.returns-in_err-put_heading
returns-in_err-put_heading g c =
    let gave : c.from_residual.result ≡ Err c.in_err-put_heading.field-0.0 = search rules in
    rw gave (lines_more (g.S.Sink.tells c.args.sink.now) (g.S.Sink.tells c.put_heading.new.sink) (heading_lines) (attempt_lines c.args.plan.now c.args.story.now.chain c.args.story.now.waits) c.in_err-put_heading.field-0.0 c.in_err-put_heading.ensures)

pub returns : goal.returns
returns g c =
    lines_then (g.S.Sink.tells c.args.sink.now) (g.S.Sink.tells c.put_heading.new.sink) (g.S.Sink.tells c.put_attempts.new.sink) (heading_lines) (attempt_lines c.args.plan.now c.args.story.now.chain c.args.story.now.waits) c.put_attempts.result c.in_ok-put_heading.ensures c.put_attempts.ensures
