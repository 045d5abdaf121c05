-- Packings, one size after another: a packing is the card of one
-- size, and a packing of the other sizes on what is left free.
use Rattle.std.proofs.Common.{◌≡◌, ◌≢◌, ◌∙◌, sym, ap, subst, refl, ℕ, zero, suc, ◌+◌, ◌-◌, ◌<◌, ◌≤◌, Bool, true, false, cond, ◌==◌, List, [], ◌∷◌, length, get_or, arith, nat_lt, length-set, get_or-set_same, get_or-set_other, set-set, below_more}
use Rattle.std.proofs.lemmas.List.{set-get_or}
use Rattle.std.specs.List.{insert, remove, list_all}
use Rattle.std.proofs.Math.ListN.{set}
use Rattle.std.proofs.lemmas.Bool.{and_parts, and_from}
use Rattle.std.proofs.lemmas.Bool.Decides.{nat_tests}
use Rattle.ct_alloc.specs.Packing.{load, IsPacking, CannotPack}

-- what a size at a card adds to the load of a card
abbrev pub share : ℕ → ℕ → ℕ → ℕ
share card on size = cond (on == card) size 0

-- the load of a card is the share of one size and the load of the other sizes
pub load-at : (card k : ℕ) (sizes cards : List ℕ) (on : ℕ) → k < length sizes → k ≤ length cards → load card sizes (insert cards k on) ≡ share card on (get_or sizes k 0) + load card (remove sizes k) cards
load-at card k [] cards on inside below = absurd (omega arith)
load-at card zero (size ∷ sizes) cards on inside below = refl
load-at card (suc k) (size ∷ sizes) [] on inside below = absurd (omega arith)
load-at card (suc k) (size ∷ sizes) (at ∷ cards) on inside below =
    let again = load-at card k sizes cards on (omega arith) (omega arith) in
    omega (arith, again)

pub insert-back : (k : ℕ) (cards : List ℕ) → k < length cards → insert (remove cards k) k (get_or cards k 0) ≡ cards
insert-back k [] inside = absurd (omega arith)
insert-back zero (card ∷ cards) inside = refl
insert-back (suc k) (card ∷ cards) inside = ap (λ t. card ∷ t) (insert-back k cards (omega arith))

pub insert-length : (k : ℕ) (cards : List ℕ) (on : ℕ) → k ≤ length cards → length (insert cards k on) ≡ suc (length cards)
insert-length zero cards on inside = refl
insert-length (suc k) [] on inside = absurd (omega arith)
insert-length (suc k) (card ∷ cards) on inside = omega (arith, insert-length k cards on (omega arith))

pub remove-length : (k : ℕ) (cards : List ℕ) → k < length cards → suc (length (remove cards k)) ≡ length cards
remove-length k [] inside = absurd (omega arith)
remove-length zero (card ∷ cards) inside = refl
remove-length (suc k) (card ∷ cards) inside = omega (arith, remove-length k cards (omega arith))

pub insert-all : (p : ℕ → Bool) (k : ℕ) (cards : List ℕ) (on : ℕ) → p on ≡ true → list_all p cards ≡ true → list_all p (insert cards k on) ≡ true
insert-all p zero cards on here all = and_from (p on) (list_all p cards) here all
insert-all p (suc k) [] on here all = and_from (p on) true here refl
insert-all p (suc k) (card ∷ cards) on here all =
    let both = and_parts (p card) (list_all p cards) all in
    and_from (p card) (list_all p (insert cards k on)) both.0 (insert-all p k cards on here both.1)

pub remove-all : (p : ℕ → Bool) (k : ℕ) (cards : List ℕ) → list_all p cards ≡ true → list_all p (remove cards k) ≡ true
remove-all p zero [] all = refl
remove-all p (suc k) [] all = refl
remove-all p zero (card ∷ cards) all = (and_parts (p card) (list_all p cards) all).1
remove-all p (suc k) (card ∷ cards) all =
    let both = and_parts (p card) (list_all p cards) all in
    and_from (p card) (list_all p (remove cards k)) both.0 (remove-all p k cards both.1)

pub all-at : (p : ℕ → Bool) (k : ℕ) (cards : List ℕ) → k < length cards → list_all p cards ≡ true → p (get_or cards k 0) ≡ true
all-at p k [] inside all = absurd (omega arith)
all-at p zero (card ∷ cards) inside all = (and_parts (p card) (list_all p cards) all).0
all-at p (suc k) (card ∷ cards) inside all = all-at p k cards (omega arith) (and_parts (p card) (list_all p cards) all).1

-- the free slots that are left once a size is on a card
abbrev pub left : List ℕ → ℕ → ℕ → List ℕ
left free card size = set free card (get_or free card 0 - size)

share-left : (free : List ℕ) (on card size more : ℕ) → on < length free → size ≤ get_or free on 0 → more ≤ get_or (left free on size) card 0 → share card on size + more ≤ get_or free card 0
share-left free on card size more inside fits le = by_test (on == card) refl
  where
    by_test : (test : Bool) → (on == card) ≡ test → cond test size 0 + more ≤ get_or free card 0
    by_test true t =
        let same : card ≡ on = grind (arith, nat_tests) in
        let there : get_or (left free on size) card 0 ≡ get_or free on 0 - size = ap (λ c. get_or (left free on size) c 0) same ∙ get_or-set_same free on (get_or free on 0 - size) 0 inside in
        let here : get_or free card 0 ≡ get_or free on 0 = ap (λ c. get_or free c 0) same in
        omega (arith, there, here)
    by_test false t =
        let other : card ≢ on = grind (arith, nat_tests) in
        omega (arith, get_or-set_other free on card (get_or free on 0 - size) 0 other)

left-share : (free : List ℕ) (on card size more : ℕ) → on < length free → share card on size + more ≤ get_or free card 0 → more ≤ get_or (left free on size) card 0
left-share free on card size more inside le = by_test (on == card) refl le
  where
    by_test : (test : Bool) → (on == card) ≡ test → cond test size 0 + more ≤ get_or free card 0 → more ≤ get_or (left free on size) card 0
    by_test true t e =
        let same : card ≡ on = grind (arith, nat_tests) in
        let there : get_or (left free on size) card 0 ≡ get_or free on 0 - size = ap (λ c. get_or (left free on size) c 0) same ∙ get_or-set_same free on (get_or free on 0 - size) 0 inside in
        let here : get_or free card 0 ≡ get_or free on 0 = ap (λ c. get_or free c 0) same in
        omega (arith, there, here)
    by_test false t e =
        let other : card ≢ on = grind (arith, nat_tests) in
        omega (arith, get_or-set_other free on card (get_or free on 0 - size) 0 other)

-- a packing of the others with one more size on a card that has room for it is a packing
pub packing-more : (free sizes : List ℕ) (k on : ℕ) (cards : List ℕ) → k < length sizes → on < length free → get_or sizes k 0 ≤ get_or free on 0 → IsPacking (left free on (get_or sizes k 0)) (remove sizes k) cards → IsPacking free sizes (insert cards k on)
packing-more free sizes k on cards inside there fits packs =
    let count : length cards ≡ length (remove sizes k) = packs.count in
    let fewer : suc (length (remove sizes k)) ≡ length sizes = remove-length k sizes inside in
    let same : length (left free on (get_or sizes k 0)) ≡ length free = length-set free on (get_or free on 0 - get_or sizes k 0) in
    let all : list_all (λ card. nat_lt card (length free)) cards ≡ true = subst (λ (n : ℕ). list_all (λ card. nat_lt card n) cards ≡ true) same packs.within in
    record {
      count = omega (arith, insert-length k cards on (omega arith));
      within = insert-all (λ card. nat_lt card (length free)) k cards on (grind (arith, nat_tests)) all;
      room = λ card. let sum = load-at card k sizes cards on inside (omega arith) in
          omega (arith, sum, share-left free on card (get_or sizes k 0) (load card (remove sizes k) cards) there fits (packs.room card));
    }

-- the parts of a packing: the card of one size, which has room for it, and a packing of the other sizes
pub record Parts (free sizes : List ℕ) (k on : ℕ) (cards : List ℕ) : Type 0 where
  pub there : on < length free
  pub fits : get_or sizes k 0 ≤ get_or free on 0
  pub packs : IsPacking (left free on (get_or sizes k 0)) (remove sizes k) cards

pub packing-less : (free sizes : List ℕ) (k : ℕ) (cards : List ℕ) → k < length sizes → IsPacking free sizes cards → Parts free sizes k (get_or cards k 0) (remove cards k)
packing-less free sizes k cards inside packs =
    let on : ℕ = get_or cards k 0 in
    let count : length cards ≡ length sizes = packs.count in
    let fewer : suc (length (remove sizes k)) ≡ length sizes = remove-length k sizes inside in
    let fewer_cards : suc (length (remove cards k)) ≡ length cards = remove-length k cards (omega arith) in
    let below : nat_lt on (length free) ≡ true = all-at (λ card. nat_lt card (length free)) k cards (omega arith) packs.within in
    let there : on < length free = grind (arith, nat_tests) in
    let same : length (left free on (get_or sizes k 0)) ≡ length free = length-set free on (get_or free on 0 - get_or sizes k 0) in
    let room : (card : ℕ) → share card on (get_or sizes k 0) + load card (remove sizes k) (remove cards k) ≤ get_or free card 0 =
    λ card. (let sum = load-at card k sizes (remove cards k) on inside (omega arith) in
    let whole : load card sizes (insert (remove cards k) k on) ≡ load card sizes cards = ap (λ t. load card sizes t) (insert-back k cards (omega arith)) in
    omega (arith, sum, whole, packs.room card)) in
    let own : share on on (get_or sizes k 0) ≡ get_or sizes k 0 = grind (arith, nat_tests) in
    record {
      there = there;
      fits = omega (arith, room on, own);
      packs = record {
        count = omega arith;
        within = subst (λ (n : ℕ). list_all (λ card. nat_lt card n) (remove cards k) ≡ true) (sym same) (remove-all (λ card. nat_lt card (length free)) k cards packs.within);
        room = λ card. left-share free on card (get_or sizes k 0) (load card (remove sizes k) (remove cards k)) there (room card);
      };
    }

-- on this card the size leads to no packing
abbrev pub IsHopeless : List ℕ → List ℕ → ℕ → ℕ → Type 0
IsHopeless free sizes k card = get_or sizes k 0 ≤ get_or free card 0 → CannotPack (left free card (get_or sizes k 0)) (remove sizes k)

pub hopeless-all : (free sizes : List ℕ) (k : ℕ) → k < length sizes → ((card : ℕ) → card < length free → IsHopeless free sizes k card) → CannotPack free sizes
hopeless-all free sizes k inside none = λ some.
    let parts = packing-less free sizes k some.0 inside some.1 in
    none (get_or some.0 k 0) parts.there parts.fits (remove some.0 k, parts.packs)

-- once a size is taken back from its card, the free slots are as before
pub left-back : (free : List ℕ) (card size : ℕ) → card < length free → size ≤ get_or free card 0 → set (left free card size) card (get_or (left free card size) card 0 + size) ≡ free
left-back free card size inside fits =
    let at : get_or (left free card size) card 0 ≡ get_or free card 0 - size = get_or-set_same free card (get_or free card 0 - size) 0 inside in
    let whole : get_or (left free card size) card 0 + size ≡ get_or free card 0 = omega (arith, at) in
    set-set free card (get_or free card 0 - size) (get_or (left free card size) card 0 + size) ∙ ap (λ n. set free card n) whole ∙ set-get_or free card 0

-- on each card tried so far the size leads to no packing, and the free slots are as before
abbrev pub IsTried : List ℕ → List ℕ → List ℕ → ℕ → ℕ → Type 0
IsTried free before sizes k tried = (free ≡ before) × ((card : ℕ) → card < tried → IsHopeless free sizes k card)

pub tried-more : (before free now sizes : List ℕ) (k card : ℕ) → IsTried free before sizes k card → now ≡ free → IsHopeless free sizes k card → IsTried now before sizes k (card + 1)
tried-more before free now sizes k card tried same here =
    (same ∙ tried.0, subst (λ (xs : List ℕ). (j : ℕ) → j < card + 1 → IsHopeless xs sizes k j) (sym same) (below_more (λ j. IsHopeless free sizes k j) card tried.1 here))
