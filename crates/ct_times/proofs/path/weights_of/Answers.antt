use Rattle.std.proofs.Common.{rules, ◌≡◌, ◌≤◌, ◌<◌, List, get_or, length, map, subst}
use Rattle.std.specs.Prelude.{IsPermutation}
use Rattle.std.specs.Borrow.{Bor}
use Rattle.std.specs.List.Sorted.{IsNonDecreasingBy}
use Rattle.ct_history.specs.declared.plan.PlanTest.{PlanTest}
use Rattle.ct_times.specs.Bounds.{done_by}
use Rattle.ct_times.specs.Works.{kept_at}
use Rattle.ct_times.proofs.WeightLemmas.{weighed_all, weighed_more}
use Rattle.ct_times.proofs.path.weights_of.Goals as goal

pub loop-test-preserved : goal.loop-test-preserved
loop-test-preserved c =
    let sorted = c.deref-test-items.result.now in
    let now = λ (t : Bor PlanTest). t.now in
    let lent : c.in_ok-sorted.sorted.items ≡ sorted = search rules in
    let same : IsPermutation c.args.plan.now.tests (map now sorted) =
    subst (λ (bs : List (Bor PlanTest)). IsPermutation c.args.plan.now.tests (map now bs)) lent
    (subst (λ (ts : List PlanTest). IsPermutation ts (map now c.in_ok-sorted.sorted.items)) c.as_slice.ensures c.in_ok-sorted.ensures.same)
    in
    let up : IsNonDecreasingBy (λ (t : Bor PlanTest). t.now.rank) sorted =
    subst (λ (bs : List (Bor PlanTest)). IsNonDecreasingBy (λ (t : Bor PlanTest). t.now.rank) bs) lent c.in_ok-sorted.ensures.sorted
    in
    let at = c.loop-test.test-index in
    let t = c.test-item.result in
    let within : at < length sorted = search rules in
    let is : t ≡ get_or sorted at t = search rules in
    weighed_more c.args.plan.now c.requires (done_by c.args.works.now) sorted same up
    (kept_at c.loop-test.weights) (kept_at c.weigh.new.weights) at t within is c.in_ok-weigh.ensures c.loop-test.invariant

pub returns : goal.returns
returns c =
    let sorted = c.deref-test-items.result.now in
    let now = λ (t : Bor PlanTest). t.now in
    let lent : c.in_ok-sorted.sorted.items ≡ sorted = search rules in
    let same : IsPermutation c.args.plan.now.tests (map now sorted) =
    subst (λ (bs : List (Bor PlanTest)). IsPermutation c.args.plan.now.tests (map now bs)) lent
    (subst (λ (ts : List PlanTest). IsPermutation ts (map now c.in_ok-sorted.sorted.items)) c.as_slice.ensures c.in_ok-sorted.ensures.same)
    in
    let up : IsNonDecreasingBy (λ (t : Bor PlanTest). t.now.rank) sorted =
    subst (λ (bs : List (Bor PlanTest)). IsNonDecreasingBy (λ (t : Bor PlanTest). t.now.rank) bs) lent c.in_ok-sorted.ensures.sorted
    in
    let all : length sorted ≤ c.loop-test.test-index = search rules in
    weighed_all c.args.plan.now c.requires (done_by c.args.works.now) sorted same up
    (kept_at c.loop-test.weights) c.loop-test.test-index all c.loop-test.invariant
