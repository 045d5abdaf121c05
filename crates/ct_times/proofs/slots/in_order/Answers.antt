use Rattle.std.proofs.Common.{rules, ◌≡◌, List, ℕ, map, subst}
use Rattle.std.proofs.lemmas.List.Filters.{dedup_is}
use Rattle.ct_times.specs.Asked.{as_slots}
use Rattle.ct_times.specs.First.{AreSortedOnce, compare_slots, counts_asked}
use Rattle.ct_times.proofs.AskedLemmas.{are_same, asked_in_order}
use Rattle.ct_times.proofs.slots.in_order.Goals as goal

pub returns : goal.returns
returns c =
    let once = c.dedup.new.self.items in
    let sorted = c.sort_unstable.new.self.items in
    let all : map as_slots c.ask_tests.new.asked.items ≡ counts_asked c.args.plan.now = search rules in
    subst (λ (xs : List (List ℕ × ℕ)). AreSortedOnce compare_slots xs (map as_slots once)) all
    (asked_in_order c.ask_tests.new.asked.items sorted once c.sort_unstable.ensures.permutation c.sort_unstable.ensures.sorted (dedup_is are_same sorted once c.dedup.ensures.filtered))
