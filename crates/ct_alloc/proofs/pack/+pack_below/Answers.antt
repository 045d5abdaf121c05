use Rattle.std.proofs.Common.{rules, ◌≡◌, ◌≢◌, ◌∙◌, ap, sym, subst, refl, ◌<◌, length, ℕ, ◌+◌, ◌≤◌, List, get_or, arith}
use Rattle.std.specs.List.{insert, remove}
use Rattle.std.proofs.Math.ListN.{set}
use Rattle.ct_alloc.specs.Packing.{CannotPack, IsNextCard, IsPacking, LiesBelow}
use Rattle.ct_alloc.proofs.PackLemmas.{hopeless-all, left, left-back, packing-more, remove-length}
use Rattle.ct_alloc.proofs.RoomLemmas.{IsTriedFrom, hopeless-filled, lies-all, lies-next, tried-lies, tried-none, tried-on}
use Rattle.ct_alloc.proofs.pack.+pack_below.Goals as goal
use Rattle.ct_alloc.proofs.pack.+pack_below.Goals.{then-size-last, else-size-last, then-room-size, else-room-size}

pub loop-card-init : goal.loop-card-init
loop-card-init t c = elim c.if-size-last.branch [
  | then-size-last w ↦ (
      let is : get_or c.args.sizes.now c.in-Some.greatest 0 ≡ c.args.last = search rules in
      subst (λ (b : ℕ). IsTriedFrom c.args.free.now c.args.free.now c.args.sizes.now c.in-Some.greatest b) (sym w.below-is)
      (tried-lies c.args.free.now c.args.sizes.now c.in-Some.greatest c.args.last c.args.limit (search rules) is c.requires.lies))
  | else-size-last w ↦ (
      let all : (at : ℕ) → get_or c.args.free.now at 0 < c.if-size-last.below = search rules in
      tried-none c.args.free.now c.args.sizes.now c.in-Some.greatest c.if-size-last.below all)
]

pub pack_below-requires : goal.pack_below-requires
pack_below-requires t c =
    let size : ℕ = get_or c.args.sizes.now c.in-Some.greatest 0 in
    let free : List ℕ = c.loop-card.free in
    let card : ℕ = c.in-Some-next_card.card in
    let next : IsNextCard c.loop-card.free (get_or c.args.sizes.now c.in-Some.greatest 0) c.loop-card.below c.in-Some-next_card.card = search rules in
    let lies : LiesBelow (left c.loop-card.free c.in-Some-next_card.card (get_or c.args.sizes.now c.in-Some.greatest 0)) (remove c.args.sizes.now c.in-Some.greatest) (get_or c.args.sizes.now c.in-Some.greatest 0) c.if-room-size.next_limit =
    elim c.if-room-size.branch [
      | then-room-size w ↦ (
          let all : (at : ℕ) → get_or c.loop-card.free at 0 < c.if-room-size.next_limit = search rules in
          lies-all free (remove c.args.sizes.now c.in-Some.greatest) card size size c.if-room-size.next_limit next.there all)
      | else-room-size w ↦ (
          let apart : get_or c.loop-card.free c.in-Some-next_card.card 0 ≢ get_or c.args.sizes.now c.in-Some.greatest 0 = search rules in
          let is : c.if-room-size.next_limit ≡ get_or c.loop-card.free c.in-Some-next_card.card 0 + 1 = search rules in
          subst (λ (l : ℕ). LiesBelow (left c.loop-card.free c.in-Some-next_card.card (get_or c.args.sizes.now c.in-Some.greatest 0)) (remove c.args.sizes.now c.in-Some.greatest) (get_or c.args.sizes.now c.in-Some.greatest 0) l) (sym is)
          (lies-next free c.args.free.now c.args.sizes.now c.in-Some.greatest c.loop-card.below card size c.loop-card.invariant next refl apart))
    ] in
    let rest : c.as_slice.result.now ≡ remove c.args.sizes.now c.in-Some.greatest = search rules in
    let fewer : length c.as_slice.result.now < length c.args.sizes.now =
    subst (λ (xs : List ℕ). length xs < length c.args.sizes.now) (sym rest) (omega (arith, remove-length c.in-Some.greatest c.args.sizes.now (search rules))) in
    (search rules, subst (λ (xs : List ℕ). LiesBelow (left c.loop-card.free c.in-Some-next_card.card (get_or c.args.sizes.now c.in-Some.greatest 0)) xs (get_or c.args.sizes.now c.in-Some.greatest 0) c.if-room-size.next_limit) (sym rest) lies)

pub returns-in-Some-found-clause-exact : goal.returns-in-Some-found-clause-exact
returns-in-Some-found-clause-exact t c =
    let free : List ℕ = c.args.free.now in
    let sizes : List ℕ = c.args.sizes.now in
    let k : ℕ = c.in-Some.greatest in
    let card : ℕ = c.in-Some-next_card.card in
    let before : c.loop-card.free ≡ free = c.loop-card.invariant.0 in
    let inside : k < length sizes = search rules in
    let next : IsNextCard c.loop-card.free (get_or c.args.sizes.now c.in-Some.greatest 0) c.loop-card.below c.in-Some-next_card.card = search rules in
    let there : card < length free = subst (λ (f : List ℕ). card < length f) before next.there in
    let fits : get_or sizes k 0 ≤ get_or free card 0 = subst (λ (f : List ℕ). get_or sizes k 0 ≤ get_or f card 0) before next.fits in
    let inner : IsPacking (left c.loop-card.free card (get_or sizes k 0)) (remove sizes k) c.in-Some-found.cards.items = search rules in
    let items : c.insert.new.self.items ≡ insert c.in-Some-found.cards.items k card = search rules in
    subst (λ (cards : List ℕ). IsPacking free sizes cards) (sym items) (packing-more free sizes k card c.in-Some-found.cards.items inside there fits (subst (λ (f : List ℕ). IsPacking (left f card (get_or sizes k 0)) (remove sizes k) c.in-Some-found.cards.items) before inner))

pub returns-in-Some-found-clause-kept : goal.returns-in-Some-found-clause-kept
returns-in-Some-found-clause-kept t c =
    let next : IsNextCard c.loop-card.free (get_or c.args.sizes.now c.in-Some.greatest 0) c.loop-card.below c.in-Some-next_card.card = search rules in
    let kept : c.pack_below.new.free ≡ left c.loop-card.free c.in-Some-next_card.card (get_or c.args.sizes.now c.in-Some.greatest 0) = search rules in
    ap (λ f. set f c.in-Some-next_card.card (get_or f c.in-Some-next_card.card 0 + get_or c.args.sizes.now c.in-Some.greatest 0)) kept
    ∙ left-back c.loop-card.free c.in-Some-next_card.card (get_or c.args.sizes.now c.in-Some.greatest 0) next.there next.fits
    ∙ c.loop-card.invariant.0

pub returns-then-room-size-2-clause-exact : goal.returns-then-room-size-2-clause-exact
returns-then-room-size-2-clause-exact t c =
    let sizes : List ℕ = c.args.sizes.now in
    let k : ℕ = c.in-Some.greatest in
    let card : ℕ = c.in-Some-next_card.card in
    let inside : k < length sizes = search rules in
    let next : IsNextCard c.loop-card.free (get_or c.args.sizes.now c.in-Some.greatest 0) c.loop-card.below c.in-Some-next_card.card = search rules in
    let full : get_or c.loop-card.free card 0 ≡ get_or sizes k 0 = search rules in
    let none : CannotPack (left c.loop-card.free card (get_or sizes k 0)) (remove sizes k) = search rules in
    subst (λ (f : List ℕ). CannotPack f sizes) c.loop-card.invariant.0
    (hopeless-all c.loop-card.free sizes k inside (λ other there. hopeless-filled c.loop-card.free sizes k card other next.there there full (λ fits. none)))

pub returns-then-room-size-2-clause-kept : goal.returns-then-room-size-2-clause-kept
returns-then-room-size-2-clause-kept t c =
    let next : IsNextCard c.loop-card.free (get_or c.args.sizes.now c.in-Some.greatest 0) c.loop-card.below c.in-Some-next_card.card = search rules in
    let kept : c.pack_below.new.free ≡ left c.loop-card.free c.in-Some-next_card.card (get_or c.args.sizes.now c.in-Some.greatest 0) = search rules in
    ap (λ f. set f c.in-Some-next_card.card (get_or f c.in-Some-next_card.card 0 + get_or c.args.sizes.now c.in-Some.greatest 0)) kept
    ∙ left-back c.loop-card.free c.in-Some-next_card.card (get_or c.args.sizes.now c.in-Some.greatest 0) next.there next.fits
    ∙ c.loop-card.invariant.0

pub loop-card-preserved : goal.loop-card-preserved
loop-card-preserved t c =
    let size : ℕ = get_or c.args.sizes.now c.in-Some.greatest 0 in
    let card : ℕ = c.in-Some-next_card.card in
    let next : IsNextCard c.loop-card.free (get_or c.args.sizes.now c.in-Some.greatest 0) c.loop-card.below c.in-Some-next_card.card = search rules in
    let kept : c.pack_below.new.free ≡ left c.loop-card.free c.in-Some-next_card.card (get_or c.args.sizes.now c.in-Some.greatest 0) = search rules in
    let none : CannotPack (left c.loop-card.free c.in-Some-next_card.card (get_or c.args.sizes.now c.in-Some.greatest 0)) (remove c.args.sizes.now c.in-Some.greatest) = search rules in
    let apart : get_or c.loop-card.free c.in-Some-next_card.card 0 ≢ get_or c.args.sizes.now c.in-Some.greatest 0 = search rules in
    let is : c.from-below.result ≡ get_or c.loop-card.free c.in-Some-next_card.card 0 = search rules in
    let back : set c.pack_below.new.free card (get_or c.pack_below.new.free card 0 + size) ≡ c.loop-card.free =
    ap (λ f. set f c.in-Some-next_card.card (get_or f c.in-Some-next_card.card 0 + get_or c.args.sizes.now c.in-Some.greatest 0)) kept
    ∙ left-back c.loop-card.free c.in-Some-next_card.card (get_or c.args.sizes.now c.in-Some.greatest 0) next.there next.fits in
    tried-on c.args.free.now c.loop-card.free (set c.pack_below.new.free card (get_or c.pack_below.new.free card 0 + size)) c.args.sizes.now c.in-Some.greatest c.loop-card.below card c.from-below.result c.loop-card.invariant back next apart (λ fits. none) is

pub returns-clause-exact : goal.returns-clause-exact
returns-clause-exact t c =
    let inside : c.in-Some.greatest < length c.args.sizes.now = search rules in
    let none : (card : ℕ) → card < length c.loop-card.free → get_or c.args.sizes.now c.in-Some.greatest 0 ≤ get_or c.loop-card.free card 0 → c.loop-card.below ≤ get_or c.loop-card.free card 0 = search rules in
    subst (λ (f : List ℕ). CannotPack f c.args.sizes.now) c.loop-card.invariant.0
    (hopeless-all c.loop-card.free c.args.sizes.now c.in-Some.greatest inside (λ card there fits. c.loop-card.invariant.1 card there (none card there fits) fits))
