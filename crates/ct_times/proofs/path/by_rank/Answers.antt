use Rattle.std.proofs.Common.{rules, List, map, subst}
use Rattle.std.specs.Prelude.{IsPermutation}
use Rattle.std.specs.Borrow.{Bor}
use Rattle.std.proofs.lemmas.List.Sorted.{IsNonDecreasingBy-from_sort_by, IsPermutation-map}
use Rattle.ct_history.specs.declared.plan.PlanTest.{PlanTest}
use Rattle.ct_times.proofs.path.by_rank.Goals as goal

pub returns-clause-same : goal.returns-clause-same
returns-clause-same c =
    let now = λ (t : Bor PlanTest). t.now in
    subst (λ (ts : List PlanTest). IsPermutation ts (map now c.sort_unstable_by.new.self.items)) c.in_ok-sorted.ensures
    (IsPermutation-map now c.in_ok-sorted.sorted.items c.sort_unstable_by.new.self.items c.sort_unstable_by.ensures.permutation)

pub returns-clause-sorted : goal.returns-clause-sorted
returns-clause-sorted c =
    IsNonDecreasingBy-from_sort_by (λ (t : Bor PlanTest). t.now.rank) c.sort_unstable_by.new.self.items c.sort_unstable_by.ensures.sorted (λ a r f h. search rules)
