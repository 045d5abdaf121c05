use Rattle.std.proofs.Common.{rules, ◌≡◌, Err}
use Rattle.ct_explain.specs.Report.{time_lines, title_lines}
use Rattle.ct_report.proofs.PutLemmas.{lines_more, lines_then}
use Rattle.ct_explain.proofs.report.put_head.Goals as goal

pub returns-in_err-put_title : goal.returns-in_err-put_title
returns-in_err-put_title g c =
    let gave : c.from_residual.result ≡ Err c.in_err-put_title.field-0.0 = search rules in
    rw gave (lines_more (g.S.Sink.tells c.args.sink.now) (g.S.Sink.tells c.put_title.new.sink) (title_lines c.args.plan.now) (time_lines c.args.story.now) c.in_err-put_title.field-0.0 c.in_err-put_title.ensures)

pub returns : goal.returns
returns g c =
    lines_then (g.S.Sink.tells c.args.sink.now) (g.S.Sink.tells c.put_title.new.sink) (g.S.Sink.tells c.put_times.new.sink) (title_lines c.args.plan.now) (time_lines c.args.story.now) c.put_times.result c.in_ok-put_title.ensures c.put_times.ensures
