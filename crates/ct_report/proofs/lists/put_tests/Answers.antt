use Rattle.std.proofs.Common.{rules, ◌≡◌, ◌∷◌, [], ℕ, List, Err, subst}
use Rattle.ct_base.specs.declared.sink.SinkFault.TheVariants as Sinks
use Rattle.ct_base.specs.Outside.{Puts, PutsEach}
use Rattle.ct_report.specs.Lists.{test_entry}
use Rattle.ct_report.proofs.ListLemmas.{entries-stop, entry-fails}
use Rattle.ct_report.proofs.lists.put_tests.Goals as goal

pub returns-in_err-line-clause-text : goal.returns-in_err-line-clause-text
returns-in_err-line-clause-text g c =
    let gave : c.from_residual.result ≡ Err Sinks.NoMemory = search rules in
    rw gave ((entries-stop c.args.tests.now c.loop-test.test-index (g.S.Sink.tells c.args.sink.now) (g.S.Sink.tells c.loop-test.sink) c.loop-test.invariant).bytes)

pub returns-in_err-line-clause-each : goal.returns-in_err-line-clause-each
returns-in_err-line-clause-each g c =
    let gave : c.from_residual.result ≡ Err Sinks.NoMemory = search rules in
    rw gave ((entries-stop c.args.tests.now c.loop-test.test-index (g.S.Sink.tells c.args.sink.now) (g.S.Sink.tells c.loop-test.sink) c.loop-test.invariant).each)

pub returns-in_err-put-clause-text : goal.returns-in_err-put-clause-text
returns-in_err-put-clause-text g c =
    let old = g.S.Sink.tells c.args.sink.now in
    let mid = g.S.Sink.tells c.loop-test.sink in
    let new = g.S.Sink.tells c.put.new.self in
    let fault = c.in_err-put.field-0.0 in
    let named : c.bytes.result.now ≡ test_entry c.test-item.result = search rules in
    let gave : c.from_residual-in_err-put.result ≡ Err fault = search rules in
    let put = subst (λ (t : List ℕ). Puts t mid new (Err fault)) named c.in_err-put.ensures.puts in
    let each = subst (λ (t : List ℕ). PutsEach (t ∷ []) mid new (Err fault)) named c.in_err-put.ensures.each in
    rw gave ((entry-fails c.args.tests.now c.loop-test.test-index c.test-item.result c.loop-test-test.true c.test-item.is old mid new c.loop-test.invariant fault put each).bytes)

pub returns-in_err-put-clause-each : goal.returns-in_err-put-clause-each
returns-in_err-put-clause-each g c =
    let old = g.S.Sink.tells c.args.sink.now in
    let mid = g.S.Sink.tells c.loop-test.sink in
    let new = g.S.Sink.tells c.put.new.self in
    let fault = c.in_err-put.field-0.0 in
    let named : c.bytes.result.now ≡ test_entry c.test-item.result = search rules in
    let gave : c.from_residual-in_err-put.result ≡ Err fault = search rules in
    let put = subst (λ (t : List ℕ). Puts t mid new (Err fault)) named c.in_err-put.ensures.puts in
    let each = subst (λ (t : List ℕ). PutsEach (t ∷ []) mid new (Err fault)) named c.in_err-put.ensures.each in
    rw gave ((entry-fails c.args.tests.now c.loop-test.test-index c.test-item.result c.loop-test-test.true c.test-item.is old mid new c.loop-test.invariant fault put each).each)
