use Rattle.std.proofs.Common.{rules, ◌≡◌, ◌∙◌, ◌+◌, ℕ, List, [], ◌∷◌, subst, get_or, take, drop, Err}
use Rattle.ct_base.specs.Outside.{Puts, PutsEach}
use Rattle.ct_report.specs.Report.{text_of}
use Rattle.ct_report.proofs.PutLemmas.{each_fails, puts_fails, text_of-split}
use Rattle.ct_report.proofs.puts.put_lines.Goals as goal

pub returns-in_err-put-clause-text : goal.returns-in_err-put-clause-text
returns-in_err-put-clause-text g c =
    let lines = c.args.lines.now in
    let at = c.loop-line.line-index in
    let old = g.S.Sink.tells c.args.sink.now in
    let mid = g.S.Sink.tells c.loop-line.sink in
    let new = g.S.Sink.tells c.put.new.self in
    let piece = get_or lines at c.line-item.result in
    let fault = c.in_err-put.field-0.0 in
    let put = subst (λ (text : List ℕ). Puts text mid new (Err fault)) (c.bytes.ensures ∙ c.line-item.is) c.in_err-put.ensures.puts in
    let all = puts_fails old mid new (text_of (take at lines)) piece (text_of (drop (at + 1) lines)) fault c.loop-line.invariant.0 c.loop-line.invariant.2 put in
    let gave : c.from_residual.result ≡ Err fault = search rules in
    rw (gave, text_of-split lines at c.line-item.result c.loop-line-test.true) all

pub returns-in_err-put-clause-each : goal.returns-in_err-put-clause-each
returns-in_err-put-clause-each g c =
    let mid = g.S.Sink.tells c.loop-line.sink in
    let new = g.S.Sink.tells c.put.new.self in
    let fault = c.in_err-put.field-0.0 in
    let put = subst (λ (text : List ℕ). PutsEach (text ∷ []) mid new (Err fault)) (c.bytes.ensures ∙ c.line-item.is) c.in_err-put.ensures.each in
    let gave : c.from_residual.result ≡ Err fault = search rules in
    rw gave (each_fails (g.S.Sink.tells c.args.sink.now) mid new c.args.lines.now c.loop-line.line-index c.line-item.result fault c.loop-line-test.true c.loop-line.invariant.1 put)
