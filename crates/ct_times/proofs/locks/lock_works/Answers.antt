use Rattle.std.proofs.Common.{rules, ◌≡◌, ◌<◌, ◌≤◌, [], List, get_or, length, subst, sym}
use Rattle.std.proofs.lemmas.List.{take_all}
use Rattle.ct_history.specs.declared.plan.PlanTest.{PlanTest}
use Rattle.ct_times.specs.declared.locks.LockWork.{LockWork}
use Rattle.ct_times.specs.Bounds.{done_by}
use Rattle.ct_times.specs.Locks.{IsLockWork, lock_at, no_work}
use Rattle.ct_times.proofs.LockBoundLemmas.{work_next}
use Rattle.ct_times.proofs.LockStepLemmas.{work_of_none}
use Rattle.ct_times.proofs.locks.lock_works.Goals as goal

pub loop-test-init : goal.loop-test-init
loop-test-init c = λ lock.
    let none : lock_at c.new-locks.result lock ≡ no_work = search rules in
    subst (λ (w : LockWork). IsLockWork c.args.plan.now.level (done_by c.args.works.now) lock [] w) (sym none) (work_of_none c.args.plan.now.level (done_by c.args.works.now) lock)

pub loop-test-preserved : goal.loop-test-preserved
loop-test-preserved c = λ lock.
    let plan = c.args.plan.now in
    let at = c.loop-test.test-index in
    let t = c.test-item.result in
    let within : at < length plan.tests = search rules in
    let is : t ≡ get_or plan.tests at t = search rules in
    work_next plan c.requires (done_by c.args.works.now) lock at t (lock_at c.loop-test.locks lock) (lock_at c.add_test.new.locks lock) within is (c.loop-test.invariant lock) (c.in_ok-add_test.ensures lock)

pub returns : goal.returns
returns c = λ lock.
    let plan = c.args.plan.now in
    let past : length plan.tests ≤ c.loop-test.test-index = search rules in
    subst (λ (ts : List PlanTest). IsLockWork plan.level (done_by c.args.works.now) lock ts (lock_at c.loop-test.locks lock))
    (take_all c.loop-test.test-index plan.tests past) (c.loop-test.invariant lock)
