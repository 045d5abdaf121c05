use Rattle.std.proofs.Common.{rules, ◌≡◌, ◌∷◌, [], Err, codes}
use Rattle.ct_explain.specs.Report.{bound_line}
use Rattle.ct_report.proofs.PutLemmas.{lines_more, lines_then}
use Rattle.ct_explain.proofs.report.put_bound_title.Goals as goal

pub returns-in_err-put_line : goal.returns-in_err-put_line
returns-in_err-put_line g c =
    let gave : c.from_residual.result ≡ Err c.in_err-put_line.field-0.0 = search rules in
    rw gave (lines_more (g.S.Sink.tells c.args.sink.now) (g.S.Sink.tells c.put_line.new.sink) (codes "\n" ∷ []) (bound_line c.args.story.now.bound c.args.story.now.length ∷ []) c.in_err-put_line.field-0.0 c.in_err-put_line.ensures)

pub returns : goal.returns
returns g c =
    lines_then (g.S.Sink.tells c.args.sink.now) (g.S.Sink.tells c.put_line.new.sink) (g.S.Sink.tells c.put_bound_line.new.sink) (codes "\n" ∷ []) (bound_line c.args.story.now.bound c.args.story.now.length ∷ []) c.put_bound_line.result c.in_ok-put_line.ensures c.put_bound_line.ensures
