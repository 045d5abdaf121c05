use Rattle.std.proofs.Common.{rules, ◌≡◌, ◌∷◌, [], Err, Ok, codes}
use Rattle.ct_report.specs.Report.{header_line}
use Rattle.ct_report.proofs.PutLemmas.{lines_more, lines_then, one_line}
use Rattle.ct_explain.proofs.report.put_title.Goals as goal

pub returns-in_err-header : goal.returns-in_err-header
returns-in_err-header g c =
    let old = g.S.Sink.tells c.args.sink.now in
    let new = g.S.Sink.tells c.header.new.sink in
    let fault = c.in_err-header.field-0.0 in
    let gave : c.from_residual.result ≡ Err fault = search rules in
    rw gave (lines_more old new (header_line c.args.plan.now ∷ []) (codes "\n" ∷ []) fault (one_line old new (header_line c.args.plan.now) (Err fault) c.in_err-header.ensures.text c.in_err-header.ensures.each))

pub returns : goal.returns
returns g c =
    let old = g.S.Sink.tells c.args.sink.now in
    let mid = g.S.Sink.tells c.header.new.sink in
    lines_then old mid (g.S.Sink.tells c.put_line.new.sink) (header_line c.args.plan.now ∷ []) (codes "\n" ∷ []) c.put_line.result (one_line old mid (header_line c.args.plan.now) (Ok tt) c.in_ok-header.ensures.text c.in_ok-header.ensures.each) c.put_line.ensures
