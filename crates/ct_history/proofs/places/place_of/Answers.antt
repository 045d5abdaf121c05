use Rattle.std.proofs.Common.{◌≡◌, ◌∙◌, ap, ◌+◌, ◌<◌, ◌%◌, length, arith, rules}
use Rattle.std.proofs.lemmas.List.Sorted.{answers_always}
use Rattle.ct_history.specs.declared.plan.PlanTest.{PlanTest}
use Rattle.ct_history.proofs.PlaceLemmas.{place_here, searched_place}
use Rattle.ct_history.proofs.places.place_of.Goals as goal

pub returns-then-tests-least : goal.returns-then-tests-least
returns-then-tests-least c =
    let place = (c.args.number + 4294967295) % 4294967296 in
    let lt : place < length c.args.tests.now = omega arith in
    let read = ap (λ (t : PlanTest). t.number) c.index-tests-least.is in
    let same : c.index-tests-least.result.number ≡ c.args.number = read ∙ c.if-tests-least.true in
    place_here c.args.tests.now c.args.number place c.index-tests-least.result c.requires lt c.index-tests-least.is same

pub returns : goal.returns
returns c =
    let facts = c.binary_search_by_key.ensures in
    let by_key = facts.position (λ (t : PlanTest). t.number) (answers_always _ _ _ (λ f a r g called. search rules)) in
    rw c.ok.ensures.value (searched_place c.args.tests.now c.args.number c.requires c.binary_search_by_key.result facts.bound by_key)
