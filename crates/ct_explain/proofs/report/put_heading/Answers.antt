use Rattle.std.proofs.Common.{rules, ◌≡◌, ◌∷◌, [], Err, codes}
use Rattle.ct_report.proofs.PutLemmas.{lines_more, lines_then}
use Rattle.ct_explain.proofs.report.put_heading.Goals as goal

pub returns-in_err-put_line : goal.returns-in_err-put_line
returns-in_err-put_line g c =
    let gave : c.from_residual.result ≡ Err c.in_err-put_line.field-0.0 = search rules in
    rw gave (lines_more (g.S.Sink.tells c.args.sink.now) (g.S.Sink.tells c.put_line.new.sink) (codes "\n" ∷ []) (codes "The length is made of:\n" ∷ []) c.in_err-put_line.field-0.0 c.in_err-put_line.ensures)

pub returns : goal.returns
returns g c =
    lines_then (g.S.Sink.tells c.args.sink.now) (g.S.Sink.tells c.put_line.new.sink) (g.S.Sink.tells c.put_line-2.new.sink) (codes "\n" ∷ []) (codes "The length is made of:\n" ∷ []) c.put_line-2.result c.in_ok-put_line.ensures c.put_line-2.ensures
