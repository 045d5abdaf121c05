use Rattle.std.proofs.Common.{take}
use Rattle.ct_times.specs.Bounds.{IsShare, done_by, work_by}
use Rattle.ct_times.proofs.amounts.shared_by.Given as goal

abbrev pub invariant-loop-test : goal.invariant-loop-test
invariant-loop-test l = IsShare l.share l.size (work_by l.level (done_by l.works) l.capacity l.size (take l.test-index l.tests))
