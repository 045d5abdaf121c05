use Rattle.std.proofs.Common.{rules, ◌≡◌, ◌∷◌, ◌∙◌, [], ap, ℕ, List, Err, Ok, map, subst, arith}
use Rattle.std.proofs.lemmas.List.{take_all}
use Rattle.ct_base.specs.declared.sink.SinkFault.TheVariants as Sinks
use Rattle.ct_report.specs.PutLines.{PutsLines}
use Rattle.ct_report.proofs.PutLemmas.{lines_as, lines_nothing}
use Rattle.ct_explain.specs.declared.bars.Bar.{Bar}
use Rattle.ct_explain.specs.Picture.{bar_line}
use Rattle.ct_explain.proofs.SinkLemmas.{item-of, mapped-fails, mapped-put, mapped-stop}
use Rattle.ct_explain.proofs.picture.put_each.Goals as goal

pub loop-at-init : goal.loop-at-init
loop-at-init g c = lines_nothing (g.S.Sink.tells c.args.sink.now)

pub loop-at-preserved : goal.loop-at-preserved
loop-at-preserved g c =
    let line = bar_line c.args.plan.now c.args.story.now c.args.workers.now in
    let bars = c.args.bars.now in
    let at = c.loop-at.at in
    let bar = c.expect_bar-bar.result.now in
    let mid = g.S.Sink.tells c.loop-at.sink in
    let new = g.S.Sink.tells c.put_line.new.sink in
    let named : c.bytes.result.now ≡ line bar = c.bytes.ensures ∙ c.in_ok-line.ensures in
    let put = subst (λ (t : List ℕ). PutsLines (t ∷ []) mid new (Ok tt)) named c.in_ok-put_line.ensures in
    mapped-put line bars at bar c.loop-at-test.true (item-of bars at bar c.loop-at-test.true c.expect_bar-bar.ensures) (g.S.Sink.tells c.args.sink.now) mid new c.loop-at.invariant (Ok tt) put

pub returns-in_err-line : goal.returns-in_err-line
returns-in_err-line g c =
    let gave : c.from_residual.result ≡ Err Sinks.NoMemory = search rules in
    rw gave (mapped-stop (bar_line c.args.plan.now c.args.story.now c.args.workers.now) c.args.bars.now c.loop-at.at (g.S.Sink.tells c.args.sink.now) (g.S.Sink.tells c.loop-at.sink) c.loop-at.invariant)

pub returns-in_err-put_line : goal.returns-in_err-put_line
returns-in_err-put_line g c =
    let line = bar_line c.args.plan.now c.args.story.now c.args.workers.now in
    let bars = c.args.bars.now in
    let at = c.loop-at.at in
    let bar = c.expect_bar-bar.result.now in
    let mid = g.S.Sink.tells c.loop-at.sink in
    let new = g.S.Sink.tells c.put_line.new.sink in
    let fault = c.in_err-put_line.field-0.0 in
    let named : c.bytes.result.now ≡ line bar = c.bytes.ensures ∙ c.in_ok-line.ensures in
    let gave : c.from_residual-in_err-put_line.result ≡ Err fault = search rules in
    let put = subst (λ (t : List ℕ). PutsLines (t ∷ []) mid new (Err fault)) named c.in_err-put_line.ensures in
    rw gave (mapped-fails line bars at bar c.loop-at-test.true (item-of bars at bar c.loop-at-test.true c.expect_bar-bar.ensures) (g.S.Sink.tells c.args.sink.now) mid new c.loop-at.invariant fault put)

pub returns : goal.returns
returns g c =
    let line = bar_line c.args.plan.now c.args.story.now c.args.workers.now in
    lines_as (ap (λ (bs : List Bar). map line bs) (take_all c.loop-at.at c.args.bars.now (omega arith))) c.loop-at.invariant
