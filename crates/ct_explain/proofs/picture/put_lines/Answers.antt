use Rattle.std.proofs.Common.{rules, ◌≡◌, ◌∷◌, [], ℕ, List, Err, Ok, subst, arith}
use Rattle.std.proofs.lemmas.List.{take_all}
use Rattle.ct_report.specs.PutLines.{PutsLines}
use Rattle.ct_report.proofs.PutLemmas.{lines_as, lines_nothing}
use Rattle.ct_explain.proofs.SinkLemmas.{line-fails, line-put}
use Rattle.ct_explain.proofs.picture.put_lines.Goals as goal

pub loop-line-init : goal.loop-line-init
loop-line-init g c = lines_nothing (g.S.Sink.tells c.args.sink.now)

pub loop-line-preserved : goal.loop-line-preserved
loop-line-preserved g c =
    let mid = g.S.Sink.tells c.loop-line.sink in
    let new = g.S.Sink.tells c.put_line.new.sink in
    let put = subst (λ (t : List ℕ). PutsLines (t ∷ []) mid new (Ok tt)) c.bytes.ensures c.in_ok-put_line.ensures in
    line-put c.args.lines.now c.loop-line.line-index c.line-item.result c.loop-line-test.true c.line-item.is (g.S.Sink.tells c.args.sink.now) mid new c.loop-line.invariant (Ok tt) put

pub returns-in_err-put_line : goal.returns-in_err-put_line
returns-in_err-put_line g c =
    let mid = g.S.Sink.tells c.loop-line.sink in
    let new = g.S.Sink.tells c.put_line.new.sink in
    let fault = c.in_err-put_line.field-0.0 in
    let gave : c.from_residual.result ≡ Err fault = search rules in
    let put = subst (λ (t : List ℕ). PutsLines (t ∷ []) mid new (Err fault)) c.bytes.ensures c.in_err-put_line.ensures in
    rw gave (line-fails c.args.lines.now c.loop-line.line-index c.line-item.result c.loop-line-test.true c.line-item.is (g.S.Sink.tells c.args.sink.now) mid new c.loop-line.invariant fault put)

pub returns : goal.returns
returns g c = lines_as (take_all c.loop-line.line-index c.args.lines.now (omega arith)) c.loop-line.invariant
