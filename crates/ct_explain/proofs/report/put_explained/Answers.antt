use Rattle.std.proofs.Common.{rules, ◌≡◌, Err}
use Rattle.ct_explain.specs.Report.{bound_lines, chain_lines}
use Rattle.ct_report.proofs.PutLemmas.{lines_more, lines_then}
use Rattle.ct_explain.proofs.report.put_explained.Goals as goal

pub returns-in_err-put_chain : goal.returns-in_err-put_chain
returns-in_err-put_chain g c =
    let gave : c.from_residual.result ≡ Err c.in_err-put_chain.field-0.0 = search rules in
    rw gave (lines_more (g.S.Sink.tells c.args.sink.now) (g.S.Sink.tells c.put_chain.new.sink) (chain_lines c.args.plan.now c.args.story.now) (bound_lines c.args.plan.now c.args.story.now) c.in_err-put_chain.field-0.0 c.in_err-put_chain.ensures)

pub returns : goal.returns
returns g c =
    lines_then (g.S.Sink.tells c.args.sink.now) (g.S.Sink.tells c.put_chain.new.sink) (g.S.Sink.tells c.put_bound.new.sink) (chain_lines c.args.plan.now c.args.story.now) (bound_lines c.args.plan.now c.args.story.now) c.put_bound.result c.in_ok-put_chain.ensures c.put_bound.ensures
