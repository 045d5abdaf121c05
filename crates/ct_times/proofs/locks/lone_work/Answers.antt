use Rattle.std.proofs.Common.{rules, ◌≡◌, ◌<◌, arith, get_or, length}
use Rattle.ct_times.specs.Bounds.{done_by}
use Rattle.ct_times.specs.Locks.{lone_of}
use Rattle.ct_times.proofs.MeasureLemmas.{sum_next}
use Rattle.ct_times.proofs.locks.lone_work.Goals as goal

pub loop-test-preserved : goal.loop-test-preserved
loop-test-preserved c =
    let at = c.loop-test.test-index in
    let tests = c.args.tests.now in
    let within : at < length tests = search rules in
    let is : c.test-item.result ≡ get_or tests at c.test-item.result = search rules in
    omega (arith, c.saturating_add-lone.ensures, c.lone_of.ensures, c.loop-test.invariant, sum_next (lone_of c.args.level (done_by c.args.works.now)) tests at c.test-item.result within is)
