use Rattle.std.proofs.Common.{rules, ◌≡◌, Err}
use Rattle.ct_explain.specs.Report.{explained_lines, head_lines}
use Rattle.ct_report.proofs.PutLemmas.{lines_more, lines_then}
use Rattle.ct_explain.proofs.report.put_report.Goals as goal

pub returns-in_err-put_head : goal.returns-in_err-put_head
returns-in_err-put_head g c =
    let gave : c.from_residual.result ≡ Err c.in_err-put_head.field-0.0 = search rules in
    rw gave (lines_more (g.S.Sink.tells c.args.sink.now) (g.S.Sink.tells c.put_head.new.sink) (head_lines c.args.plan.now c.args.story.now) (explained_lines c.args.plan.now c.args.story.now) c.in_err-put_head.field-0.0 c.in_err-put_head.ensures)

pub returns : goal.returns
returns g c =
    lines_then (g.S.Sink.tells c.args.sink.now) (g.S.Sink.tells c.put_head.new.sink) (g.S.Sink.tells c.put_body.new.sink) (head_lines c.args.plan.now c.args.story.now) (explained_lines c.args.plan.now c.args.story.now) c.put_body.result c.in_ok-put_head.ensures c.put_body.ensures
