use Rattle.std.proofs.Common.{◌≡◌, ◌++◌, drop}
use Rattle.ct_times.specs.Bounds.{done_by, weighing}
use Rattle.ct_times.proofs.path.weighing.Given as goal

abbrev pub invariant-loop-test : goal.invariant-loop-test
invariant-loop-test l = l.numbers ++ weighing l.level (done_by l.works) (drop l.test-index l.tests) ≡ weighing l.level (done_by l.works) l.tests
