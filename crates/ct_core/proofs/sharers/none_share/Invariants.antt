use Rattle.std.proofs.Common.{◌≡◌, ℕ, List, take}
use Rattle.std.specs.List.{list_any}
use Rattle.ct_history.specs.declared.plan.PlanTest.{PlanTest}
use Rattle.ct_core.specs.Sharers.{sharers_of, counts_sharers}
use Rattle.ct_core.proofs.sharers.none_share.Given as goal
use Rattle.ct_base.specs.Names.{is_among}

abbrev pub invariant-loop-test : goal.invariant-loop-test
invariant-loop-test l = record {
  counted : (name : List ℕ) → counts_sharers l.sharers name ≡ list_any (λ (t : PlanTest). is_among name t.shared) (take l.test-index l.tests);
  none : (name : List ℕ) → sharers_of l.sharers name ≡ 0;
}
