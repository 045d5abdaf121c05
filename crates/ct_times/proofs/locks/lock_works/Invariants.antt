use Rattle.std.proofs.Common.{List, ℕ, take}
use Rattle.ct_times.specs.Bounds.{done_by}
use Rattle.ct_times.specs.Locks.{IsLockWork, lock_at}
use Rattle.ct_times.proofs.locks.lock_works.Given as goal

abbrev pub invariant-loop-test : goal.invariant-loop-test
invariant-loop-test l =
    (lock : List ℕ) → IsLockWork l.plan.level (done_by l.works) lock (take l.test-index l.plan.tests) (lock_at l.locks lock)
