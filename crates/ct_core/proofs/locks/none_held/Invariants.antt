use Rattle.std.proofs.Common.{◌≡◌, ℕ, List, take, false}
use Rattle.std.specs.List.{list_any}
use Rattle.ct_history.specs.declared.plan.PlanTest.{PlanTest}
use Rattle.ct_core.specs.Locks.{is_held, knows}
use Rattle.ct_core.proofs.locks.none_held.Given as goal
use Rattle.ct_base.specs.Names.{is_among}

abbrev pub invariant-loop-test : goal.invariant-loop-test
invariant-loop-test l = record {
  known : (name : List ℕ) → knows l.locks name ≡ list_any (λ (t : PlanTest). is_among name t.locks) (take l.test-index l.tests);
  none : (name : List ℕ) → is_held l.locks name ≡ false;
}
