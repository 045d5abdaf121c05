use Rattle.std.proofs.Common.{rules, ◌≡◌, Err}
use Rattle.ct_base.specs.declared.sink.SinkFault.TheVariants as Sinks
use Rattle.ct_report.proofs.PutLemmas.{lines_none}
use Rattle.ct_explain.specs.Picture.{bar_lines}
use Rattle.ct_explain.proofs.picture.put_bars.Goals as goal

pub returns-in_err-bars : goal.returns-in_err-bars
returns-in_err-bars g c =
    let gave : c.from_residual.result ≡ Err Sinks.NoMemory = search rules in
    rw gave (lines_none (g.S.Sink.tells c.args.sink.now) (bar_lines c.args.plan.now c.args.story.now c.args.workers.now))

pub returns-in_err-chained : goal.returns-in_err-chained
returns-in_err-chained g c =
    let gave : c.from_residual-in_err-chained.result ≡ Err Sinks.NoMemory = search rules in
    rw gave (lines_none (g.S.Sink.tells c.args.sink.now) (bar_lines c.args.plan.now c.args.story.now c.args.workers.now))
