use Rattle.std.proofs.Common.{rules, ◌≡◌, ◌∙◌, ◌≤◌, List, ℕ, ap, length, map, subst}
use Rattle.std.specs.Borrow.{Bor}
use Rattle.std.specs.Ordering.{nat_cmp}
use Rattle.std.specs.Cmp.Lexicographic.{pointwise, slice_cmp, texts_ties}
use Rattle.std.specs.Prelude.{Bool, filter, flat_map, nat_eq}
use Rattle.std.proofs.lemmas.Cmp.{nat_list_cmp_total}
use Rattle.std.proofs.lemmas.List.Filters.{dedup_is}
use Rattle.std.proofs.lemmas.Slice.Eq.{bytes_eq-Decides}
use Rattle.std.proofs.lemmas.List.{take_all}
use Rattle.ct_history.specs.declared.plan.PlanTest.{PlanTest}
use Rattle.ct_times.specs.Bounds.{done_by, ran_beside}
use Rattle.ct_times.specs.First as First
use Rattle.ct_times.specs.First.{AreSortedOnce}
use Rattle.ct_times.proofs.OrderLemmas.{in_order}
use Rattle.ct_times.proofs.locks.locks_held.Goals as goal

pub returns : goal.returns
returns c =
    let now : Bor (List ℕ) → List ℕ = λ x. x.now in
    let same : Bor (List ℕ) → Bor (List ℕ) → Bool = λ x y. pointwise nat_eq x.now y.now in
    let items = c.loop-test.held.items in
    let sorted = c.sort_unstable.new.self.items in
    let once = c.dedup.new.self.items in
    let tests = c.args.plan.now.tests in
    let past : length tests ≤ c.loop-test.test-index = search rules in
    let beside = λ (ts : List PlanTest). flat_map (λ (t : PlanTest). t.locks) (filter (ran_beside c.args.plan.now.level (done_by c.args.works.now)) ts) in
    let all : map now items ≡ First.locks_held c.args.plan.now (done_by c.args.works.now) = c.loop-test.invariant ∙ ap beside (take_all c.loop-test.test-index tests past) in
    subst (λ (xs : List (List ℕ)). AreSortedOnce (slice_cmp nat_cmp) xs (map now once)) all
    (in_order now nat_list_cmp_total same (λ x y. texts_ties x.now y.now) (λ x y is. (bytes_eq-Decides x.now y.now).0 is) items sorted once c.sort_unstable.ensures.permutation c.sort_unstable.ensures.sorted (dedup_is same sorted once c.dedup.ensures.filtered))
