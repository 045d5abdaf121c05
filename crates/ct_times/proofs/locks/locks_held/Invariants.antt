use Rattle.std.proofs.Common.{◌≡◌, List, ℕ, map, take}
use Rattle.std.specs.Prelude.{filter, flat_map}
use Rattle.std.specs.Borrow.{Bor}
use Rattle.ct_history.specs.declared.plan.PlanTest.{PlanTest}
use Rattle.ct_times.specs.Bounds.{done_by, ran_beside}
use Rattle.ct_times.proofs.locks.locks_held.Given as goal

abbrev pub invariant-loop-test : goal.invariant-loop-test
invariant-loop-test l =
    map (λ (name : Bor (List ℕ)). name.now) l.held.items
    ≡ flat_map (λ (t : PlanTest). t.locks) (filter (ran_beside l.plan.level (done_by l.works)) (take l.test-index l.plan.tests))
