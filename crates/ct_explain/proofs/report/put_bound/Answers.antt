use Rattle.std.proofs.Common.{rules, ◌≡◌, Err}
use Rattle.ct_explain.specs.Report.{amount_lines, bound_title_lines}
use Rattle.ct_report.proofs.PutLemmas.{lines_more, lines_then}
use Rattle.ct_explain.proofs.report.put_bound.Goals as goal

pub returns-in_err-put_bound_title : goal.returns-in_err-put_bound_title
returns-in_err-put_bound_title g c =
    let gave : c.from_residual.result ≡ Err c.in_err-put_bound_title.field-0.0 = search rules in
    rw gave (lines_more (g.S.Sink.tells c.args.sink.now) (g.S.Sink.tells c.put_bound_title.new.sink) (bound_title_lines c.args.story.now) (amount_lines c.args.plan.now c.args.story.now) c.in_err-put_bound_title.field-0.0 c.in_err-put_bound_title.ensures)

pub returns : goal.returns
returns g c =
    lines_then (g.S.Sink.tells c.args.sink.now) (g.S.Sink.tells c.put_bound_title.new.sink) (g.S.Sink.tells c.put_amounts.new.sink) (bound_title_lines c.args.story.now) (amount_lines c.args.plan.now c.args.story.now) c.put_amounts.result c.in_ok-put_bound_title.ensures c.put_amounts.ensures
