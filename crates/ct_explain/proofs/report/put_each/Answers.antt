use Rattle.std.proofs.Common.{rules, ◌≡◌, ◌+◌, Err, drop}
use Rattle.ct_explain.specs.Report.{work_lines, works_lines}
use Rattle.ct_explain.proofs.PutLemmas.{all_left, less_left, left_fails, none_left}
use Rattle.ct_explain.proofs.ReportLemmas.{works_left, works_none}
use Rattle.ct_explain.proofs.report.put_each.Goals as goal

pub loop-test-init : goal.loop-test-init
loop-test-init g c = all_left (works_lines c.args.plan.now c.args.story.now c.args.tests.now) (g.S.Sink.tells c.args.sink.now)

pub loop-test-preserved : goal.loop-test-preserved
loop-test-preserved g c =
    let tests = c.args.tests.now in
    let at = c.loop-test.test-index in
    less_left (works_lines c.args.plan.now c.args.story.now tests) (work_lines c.args.plan.now c.args.story.now c.test-item.result) (works_lines c.args.plan.now c.args.story.now (drop (at + 1) tests)) (g.S.Sink.tells c.args.sink.now) (g.S.Sink.tells c.loop-test.sink) (g.S.Sink.tells c.put_work.new.sink)
    (works_left c.args.plan.now c.args.story.now tests at c.test-item.result (works_lines c.args.plan.now c.args.story.now tests) (g.S.Sink.tells c.args.sink.now) (g.S.Sink.tells c.loop-test.sink) c.loop-test-test.true c.test-item.is c.loop-test.invariant) c.in_ok-put_work.ensures

pub returns-in_err-put_work : goal.returns-in_err-put_work
returns-in_err-put_work g c =
    let tests = c.args.tests.now in
    let at = c.loop-test.test-index in
    let fault = c.in_err-put_work.field-0.0 in
    let gave : c.from_residual.result ≡ Err fault = search rules in
    rw gave (left_fails (works_lines c.args.plan.now c.args.story.now tests) (work_lines c.args.plan.now c.args.story.now c.test-item.result) (works_lines c.args.plan.now c.args.story.now (drop (at + 1) tests)) (g.S.Sink.tells c.args.sink.now) (g.S.Sink.tells c.loop-test.sink) (g.S.Sink.tells c.put_work.new.sink) fault
    (works_left c.args.plan.now c.args.story.now tests at c.test-item.result (works_lines c.args.plan.now c.args.story.now tests) (g.S.Sink.tells c.args.sink.now) (g.S.Sink.tells c.loop-test.sink) c.loop-test-test.true c.test-item.is c.loop-test.invariant) c.in_err-put_work.ensures)

pub returns : goal.returns
returns g c =
    let tests = c.args.tests.now in
    none_left (works_lines c.args.plan.now c.args.story.now tests) (g.S.Sink.tells c.args.sink.now) (g.S.Sink.tells c.loop-test.sink)
    (works_none c.args.plan.now c.args.story.now tests c.loop-test.test-index (works_lines c.args.plan.now c.args.story.now tests) (g.S.Sink.tells c.args.sink.now) (g.S.Sink.tells c.loop-test.sink) c.loop-test-test.false c.loop-test.invariant)
