use Rattle.std.proofs.Common.{rules, ◌≡◌, ◌+◌, ◌∷◌, [], Err, Ok, subst, drop, get_or}
use Rattle.std.specs.Prelude.{Option, slice_get}
use Rattle.ct_report.specs.PutLines.{PutsLines}
use Rattle.ct_explain.specs.declared.wait.Wait.{Wait}
use Rattle.ct_explain.specs.Report.{attempt_line, waited_lines}
use Rattle.ct_explain.proofs.PutLemmas.{all_left, less_left, left_fails, none_left}
use Rattle.ct_explain.proofs.ReportLemmas.{no_link, waited_left, waited_none}
use Rattle.ct_explain.proofs.report.put_waited.Goals as goal

pub loop-at-init : goal.loop-at-init
loop-at-init g c = all_left (waited_lines c.args.plan.now c.args.waits.now 0 c.args.links.now) (g.S.Sink.tells c.args.sink.now)

pub loop-at-preserved : goal.loop-at-preserved
loop-at-preserved g c =
    let mid = g.S.Sink.tells c.loop-at.sink in
    let new = g.S.Sink.tells c.put_attempt.new.sink in
    let link = get_or c.args.links.now c.loop-at.at no_link in
    let put = subst (λ (w : Option Wait). PutsLines (attempt_line c.args.plan.now link w ∷ []) mid new (Ok tt)) c.wait_at.ensures c.in_ok-put_attempt.ensures in
    less_left (waited_lines c.args.plan.now c.args.waits.now 0 c.args.links.now) (attempt_line c.args.plan.now link (slice_get c.args.waits.now c.loop-at.at) ∷ []) (waited_lines c.args.plan.now c.args.waits.now (c.loop-at.at + 1) (drop (c.loop-at.at + 1) c.args.links.now)) (g.S.Sink.tells c.args.sink.now) mid new
    (waited_left c.args.plan.now c.args.waits.now c.loop-at.at c.args.links.now (waited_lines c.args.plan.now c.args.waits.now 0 c.args.links.now) (g.S.Sink.tells c.args.sink.now) mid c.loop-at-test.true c.loop-at.invariant) put

pub returns-in_err-put_attempt : goal.returns-in_err-put_attempt
returns-in_err-put_attempt g c =
    let mid = g.S.Sink.tells c.loop-at.sink in
    let new = g.S.Sink.tells c.put_attempt.new.sink in
    let link = get_or c.args.links.now c.loop-at.at no_link in
    let fault = c.in_err-put_attempt.field-0.0 in
    let gave : c.from_residual.result ≡ Err fault = search rules in
    let put = subst (λ (w : Option Wait). PutsLines (attempt_line c.args.plan.now link w ∷ []) mid new (Err fault)) c.wait_at.ensures c.in_err-put_attempt.ensures in
    rw gave (left_fails (waited_lines c.args.plan.now c.args.waits.now 0 c.args.links.now) (attempt_line c.args.plan.now link (slice_get c.args.waits.now c.loop-at.at) ∷ []) (waited_lines c.args.plan.now c.args.waits.now (c.loop-at.at + 1) (drop (c.loop-at.at + 1) c.args.links.now)) (g.S.Sink.tells c.args.sink.now) mid new fault
    (waited_left c.args.plan.now c.args.waits.now c.loop-at.at c.args.links.now (waited_lines c.args.plan.now c.args.waits.now 0 c.args.links.now) (g.S.Sink.tells c.args.sink.now) mid c.loop-at-test.true c.loop-at.invariant) put)

pub returns : goal.returns
returns g c =
    none_left (waited_lines c.args.plan.now c.args.waits.now 0 c.args.links.now) (g.S.Sink.tells c.args.sink.now) (g.S.Sink.tells c.loop-at.sink)
    (waited_none c.args.plan.now c.args.waits.now c.loop-at.at c.args.links.now (waited_lines c.args.plan.now c.args.waits.now 0 c.args.links.now) (g.S.Sink.tells c.args.sink.now) (g.S.Sink.tells c.loop-at.sink) c.loop-at-test.false c.loop-at.invariant)
