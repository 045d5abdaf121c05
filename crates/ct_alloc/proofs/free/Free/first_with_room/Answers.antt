use Rattle.std.proofs.Common.{rules, ◌≡◌, ◌≤◌, ◌∙◌, List, ℕ, sym, get_or, false}
use Rattle.std.specs.List.{list_any}
use Rattle.std.proofs.lemmas.List.{at_drop_all}
use Rattle.ct_alloc.specs.Free.{free_at}
use Rattle.ct_alloc.proofs.ByKindLemmas.{has-room, has_slots, none-with-room}
use Rattle.ct_alloc.proofs.free.Free.first_with_room.Goals as goal

pub returns-then-need-free_at : goal.returns-then-need-free_at
returns-then-need-free_at c =
    let cards : List ℕ = c.cards-cards.result.now in
    let room : c.args.need.now.slots ≤ free_at c.args.self.now (get_or c.cards-cards.result.now c.loop-place.place-index 0) = search rules in
    has-room c.args.self.now c.args.need.now cards c.loop-place.place-index c.cards-cards.ensures c.loop-place-test.true room

pub returns : goal.returns
returns c =
    let cards : List ℕ = c.cards-cards.result.now in
    let has = has_slots c.args.self.now c.args.need.now in
    let none : list_any has cards ≡ false = sym c.loop-place.invariant ∙ at_drop_all (list_any has) cards c.loop-place.place-index c.loop-place-test.false in
    λ place there fits. none-with-room c.args.self.now c.args.need.now cards c.cards-cards.ensures none place fits
