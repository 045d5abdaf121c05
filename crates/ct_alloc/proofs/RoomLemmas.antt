-- Cards tried from the roomiest down: what follows from a
-- failed try for other cards, and for equal sizes behind it.
use Rattle.std.proofs.Common.{◌≡◌, ◌≢◌, ◌∙◌, sym, ap, subst, refl, ℕ, zero, suc, ◌+◌, ◌-◌, ◌<◌, ◌≤◌, ⊎_elim, Bool, true, false, cond, ◌==◌, List, [], ◌∷◌, length, map, get_or, arith, nat_lt, length-set, get_or-set_same, get_or-set_other}
use Rattle.std.specs.List.{insert, remove, list_all}
use Rattle.std.proofs.Math.ListN.{set}
use Rattle.std.proofs.lemmas.Bool.{and_parts, and_from}
use Rattle.std.proofs.lemmas.Bool.Decides.{nat_tests}
use Rattle.std.proofs.lemmas.List.{length-map}
use Rattle.ct_alloc.specs.Packing.{load, IsNextCard, IsPacking, LiesBelow}
use Rattle.ct_alloc.proofs.PackLemmas.{IsHopeless, left, packing-less, packing-more, remove-length, share}
use Rattle.ct_alloc.proofs.TwinLemmas.{hopeless-twin}

-- the best of the cards that were looked at: it has room for the
-- size, and the most room of all with less room than the limit
pub record IsRoomiest (free : List ℕ) (size below seen best : ℕ) : Type 0 where
  pub there : best < length free
  pub fits : size ≤ get_or free best 0
  pub less : get_or free best 0 < below
  pub most : (other : ℕ) → other < seen → get_or free other 0 < below → get_or free other 0 ≤ get_or free best 0

-- all slots are free as they were, and no card with this room or more leads to a packing
abbrev pub IsTriedFrom : List ℕ → List ℕ → List ℕ → ℕ → ℕ → Type 0
IsTriedFrom free before sizes k room = (free ≡ before) × ((card : ℕ) → card < length free → room ≤ get_or free card 0 → IsHopeless free sizes k card)

set-commute : (xs : List ℕ) (i j a b : ℕ) → i ≢ j → set (set xs i a) j b ≡ set (set xs j b) i a
set-commute [] i j a b apart = refl
set-commute (x ∷ xs) zero zero a b apart = absurd (apart refl)
set-commute (x ∷ xs) zero (suc j) a b apart = refl
set-commute (x ∷ xs) (suc i) zero a b apart = refl
set-commute (x ∷ xs) (suc i) (suc j) a b apart = ap (λ t. x ∷ t) (set-commute xs i j a b (λ e. apart (ap (λ n. suc n) e)))

insert-at : (k : ℕ) (cards : List ℕ) (on : ℕ) → k ≤ length cards → get_or (insert cards k on) k 0 ≡ on
insert-at zero cards on inside = refl
insert-at (suc k) [] on inside = absurd (omega arith)
insert-at (suc k) (card ∷ cards) on inside = insert-at k cards on (omega arith)

-- if each packing has the size on a card with less room than
-- a limit, a card with the limit's room or more is hopeless
pub hopeless-lies : (free sizes : List ℕ) (k size room card : ℕ) → k < length sizes → card < length free → get_or sizes k 0 ≡ size → LiesBelow free sizes size room → room ≤ get_or free card 0 → IsHopeless free sizes k card
hopeless-lies free sizes k size room card inside there is lies roomy = λ fits some.
    let packs : IsPacking (left free card (get_or sizes k 0)) (remove sizes k) some.0 = some.1 in
    let count : length some.0 ≡ length (remove sizes k) = packs.count in
    let at : get_or (insert some.0 k card) k 0 ≡ card = insert-at k some.0 card (omega (arith, remove-length k sizes inside)) in
    let whole : IsPacking free sizes (insert some.0 k card) = packing-more free sizes k card some.0 inside there fits packs in
    let less : get_or free (get_or (insert some.0 k card) k 0) 0 < room = lies (insert some.0 k card) k whole inside is in
    let same : get_or free (get_or (insert some.0 k card) k 0) 0 ≡ get_or free card 0 = ap (λ (c : ℕ). get_or free c 0) at in
    absurd (omega (arith, less, same))

-- a size is put on a card, and all cards with more room are hopeless. Then
-- an equal size behind it is on no card with more room than the card had.
pub lies-rest : (free sizes : List ℕ) (k card size : ℕ) → card < length free → get_or sizes k 0 ≡ size → size ≤ get_or free card 0 → ((other : ℕ) → other < length free → get_or free card 0 < get_or free other 0 → IsHopeless free sizes k other) → LiesBelow (left free card size) (remove sizes k) size (get_or free card 0 + 1)
lies-rest free sizes k card size there is fits none = λ cards at packs inside same. by_test cards at packs inside same (nat_lt (get_or (left free card size) (get_or cards at 0) 0) (get_or free card 0 + 1)) refl
  where
    by_test : (cards : List ℕ) (at : ℕ) → IsPacking (left free card size) (remove sizes k) cards → at < length (remove sizes k) → get_or (remove sizes k) at 0 ≡ size → (test : Bool) → nat_lt (get_or (left free card size) (get_or cards at 0) 0) (get_or free card 0 + 1) ≡ test → get_or (left free card size) (get_or cards at 0) 0 < get_or free card 0 + 1
    by_test cards at packs inside same true t = grind (arith, nat_tests)
    by_test cards at packs inside same false t =
        let other : ℕ = get_or cards at 0 in
        let rest : List ℕ = remove sizes k in
        let parts = packing-less (left free card size) (remove sizes k) at cards inside packs in
        let many : length (left free card size) ≡ length free = length-set free card (get_or free card 0 - size) in
        let more : get_or free card 0 + 1 ≤ get_or (left free card size) (get_or cards at 0) 0 = grind (arith, nat_tests) in
        let own : get_or (left free card size) card 0 ≡ get_or free card 0 - size = get_or-set_same free card (get_or free card 0 - size) 0 there in
        let apart : get_or cards at 0 ≢ card = λ e. (let moved : get_or (left free card size) (get_or cards at 0) 0 ≡ get_or (left free card size) card 0 = ap (λ (c : ℕ). get_or (left free card size) c 0) e in absurd (omega (arith, moved, own, more))) in
        let kept : get_or (left free card size) (get_or cards at 0) 0 ≡ get_or free (get_or cards at 0) 0 = get_or-set_other free card (get_or cards at 0) (get_or free card 0 - size) 0 apart in
        let beyond : get_or cards at 0 < length free = omega (arith, parts.there, many) in
        let first : IsPacking (left (left free card size) (get_or cards at 0) size) (remove (remove sizes k) at) (remove cards at) = subst (λ (s : ℕ). IsPacking (left (left free card size) (get_or cards at 0) s) (remove (remove sizes k) at) (remove cards at)) same parts.packs in
        let kept_card : get_or (left free (get_or cards at 0) size) card 0 ≡ get_or free card 0 = get_or-set_other free (get_or cards at 0) card (get_or free (get_or cards at 0) 0 - size) 0 (λ e. apart (sym e)) in
        let swapped : left (left free card size) (get_or cards at 0) size ≡ left (left free (get_or cards at 0) size) card size =
        ap (λ (n : ℕ). set (left free card size) (get_or cards at 0) (n - size)) kept
        ∙ set-commute free card (get_or cards at 0) (get_or free card 0 - size) (get_or free (get_or cards at 0) 0 - size) (λ e. apart (sym e))
        ∙ ap (λ (n : ℕ). set (left free (get_or cards at 0) size) card (n - size)) (sym kept_card) in
        let second : IsPacking (left (left free (get_or cards at 0) size) card (get_or (remove sizes k) at 0)) (remove (remove sizes k) at) (remove cards at) =
        subst (λ (s : ℕ). IsPacking (left (left free (get_or cards at 0) size) card s) (remove (remove sizes k) at) (remove cards at)) (sym same)
        (subst (λ (f : List ℕ). IsPacking f (remove (remove sizes k) at) (remove cards at)) swapped first) in
        let many_other : length (left free (get_or cards at 0) size) ≡ length free = length-set free (get_or cards at 0) (get_or free (get_or cards at 0) 0 - size) in
        let whole : IsPacking (left free (get_or cards at 0) size) (remove sizes k) (insert (remove cards at) at card) =
        packing-more (left free (get_or cards at 0) size) (remove sizes k) at card (remove cards at) inside (omega (arith, many_other, there)) (omega (arith, kept_card, same, fits)) second in
        absurd (none (get_or cards at 0) beyond (omega (arith, kept, more)) (omega (arith, is, fits, kept, more)) (insert (remove cards at) at card, subst (λ (s : ℕ). IsPacking (left free (get_or cards at 0) s) (remove sizes k) (insert (remove cards at) at card)) (sym is) whole))

-- the card of a size once all sizes on one card are moved to another
abbrev pub moved : ℕ → ℕ → ℕ → ℕ
moved card other on = cond (on == card) other on

share-card : (card other on size : ℕ) → card ≢ other → share card (moved card other on) size ≡ 0
share-card card other on size apart = by_test (on == card) refl
  where
    by_test : (test : Bool) → (on == card) ≡ test → share card (moved card other on) size ≡ 0
    by_test true t = let e : (other == card) ≡ false = grind (arith, nat_tests) in rw t (ap (λ b. cond b size 0) e)
    by_test false t = rw t (ap (λ b. cond b size 0) t)

share-other : (card other on size : ℕ) → card ≢ other → share other (moved card other on) size ≡ share other on size + share card on size
share-other card other on size apart = by_test (on == card) refl
  where
    by_test : (test : Bool) → (on == card) ≡ test → share other (moved card other on) size ≡ share other on size + share card on size
    by_test true t =
        let e : (other == other) ≡ true = grind (arith, nat_tests) in
        let f : (on == other) ≡ false = grind (arith, nat_tests) in
        rw (t, e, f) (let sum : size ≡ 0 + size = omega arith in sum)
    by_test false t = rw t (let sum : share other on size ≡ share other on size + 0 = omega arith in sum)

share-rest : (card other place on size : ℕ) → place ≢ card → place ≢ other → share place (moved card other on) size ≡ share place on size
share-rest card other place on size one two = by_test (on == card) refl
  where
    by_test : (test : Bool) → (on == card) ≡ test → share place (moved card other on) size ≡ share place on size
    by_test true t =
        let e : (other == place) ≡ false = grind (arith, nat_tests) in
        let f : (on == place) ≡ false = grind (arith, nat_tests) in
        rw (t, e, f) refl
    by_test false t = rw t refl

load-card : (card other : ℕ) (sizes cards : List ℕ) → card ≢ other → load card sizes (map (λ c. moved card other c) cards) ≡ 0
load-card card other [] cards apart = refl
load-card card other (size ∷ sizes) [] apart = refl
load-card card other (size ∷ sizes) (on ∷ cards) apart = omega (arith, share-card card other on size apart, load-card card other sizes cards apart)

load-other : (card other : ℕ) (sizes cards : List ℕ) → card ≢ other → load other sizes (map (λ c. moved card other c) cards) ≡ load other sizes cards + load card sizes cards
load-other card other [] cards apart = refl
load-other card other (size ∷ sizes) [] apart = refl
load-other card other (size ∷ sizes) (on ∷ cards) apart = omega (arith, share-other card other on size apart, load-other card other sizes cards apart)

load-rest : (card other place : ℕ) (sizes cards : List ℕ) → place ≢ card → place ≢ other → load place sizes (map (λ c. moved card other c) cards) ≡ load place sizes cards
load-rest card other place [] cards one two = refl
load-rest card other place (size ∷ sizes) [] one two = refl
load-rest card other place (size ∷ sizes) (on ∷ cards) one two = omega (arith, share-rest card other place on size one two, load-rest card other place sizes cards one two)

moved-within : (card other n : ℕ) (cards : List ℕ) → other < n → list_all (λ c. nat_lt c n) cards ≡ true → list_all (λ c. nat_lt c n) (map (λ c. moved card other c) cards) ≡ true
moved-within card other n [] inside all = refl
moved-within card other n (on ∷ cards) inside all =
    let both = and_parts (nat_lt on n) (list_all (λ c. nat_lt c n) cards) all in
    and_from (nat_lt (moved card other on) n) (list_all (λ c. nat_lt c n) (map (λ c. moved card other c) cards)) (by_test both.0 (on == card) refl) (moved-within card other n cards inside both.1)
  where
    by_test : nat_lt on n ≡ true → (test : Bool) → (on == card) ≡ test → nat_lt (moved card other on) n ≡ true
    by_test here true t = rw t (grind (arith, nat_tests))
    by_test here false t = rw t here

-- the sizes on a card that the size fills fit on the card where the size lies
pub packing-moved : (free sizes cards : List ℕ) (card other size : ℕ) → card < length free → other < length free → card ≢ other → get_or free card 0 ≡ size → size ≤ get_or free other 0 → IsPacking (left free other size) sizes cards → IsPacking (left free card size) sizes (map (λ c. moved card other c) cards)
packing-moved free sizes cards card other size a b apart full fits packs =
    let many : length (left free other size) ≡ length free = length-set free other (get_or free other 0 - size) in
    let many_card : length (left free card size) ≡ length free = length-set free card (get_or free card 0 - size) in
    let within : list_all (λ c. nat_lt c (length free)) cards ≡ true = subst (λ (n : ℕ). list_all (λ c. nat_lt c n) cards ≡ true) many packs.within in
    record {
      count = length-map cards (λ c. moved card other c) ∙ packs.count;
      within = subst (λ (n : ℕ). list_all (λ c. nat_lt c n) (map (λ c. moved card other c) cards) ≡ true) (sym many_card) (moved-within card other (length free) cards b within);
      room = λ place. by_card place (place == card) refl (place == other) refl;
    }
  where
    kept_card : get_or (left free other size) card 0 ≡ get_or free card 0
    kept_card = get_or-set_other free other card (get_or free other 0 - size) 0 apart

    own : get_or (left free other size) other 0 ≡ get_or free other 0 - size
    own = get_or-set_same free other (get_or free other 0 - size) 0 b

    kept_other : get_or (left free card size) other 0 ≡ get_or free other 0
    kept_other = get_or-set_other free card other (get_or free card 0 - size) 0 (λ e. apart (sym e))

    by_card : (place : ℕ) (p : Bool) → (place == card) ≡ p → (q : Bool) → (place == other) ≡ q → load place sizes (map (λ c. moved card other c) cards) ≤ get_or (left free card size) place 0
    by_card place true e q f =
        let same : card ≡ place = grind (arith, nat_tests) in
        subst (λ (i : ℕ). load i sizes (map (λ c. moved card other c) cards) ≤ get_or (left free card size) i 0) same (omega (arith, load-card card other sizes cards apart))
    by_card place false e true f =
        let same : other ≡ place = grind (arith, nat_tests) in
        subst (λ (i : ℕ). load i sizes (map (λ c. moved card other c) cards) ≤ get_or (left free card size) i 0) same (omega (arith, load-other card other sizes cards apart, packs.room other, packs.room card, kept_card, own, kept_other, full, fits))
    by_card place false e false f =
        let no_card : place ≢ card = grind (arith, nat_tests) in
        let no_other : place ≢ other = grind (arith, nat_tests) in
        omega (arith, load-rest card other place sizes cards no_card no_other, packs.room place, get_or-set_other free other place (get_or free other 0 - size) 0 no_other, get_or-set_other free card place (get_or free card 0 - size) 0 no_card)

-- if a card that the size fills is hopeless, each other card is hopeless
pub hopeless-filled : (free sizes : List ℕ) (k card other : ℕ) → card < length free → other < length free → get_or free card 0 ≡ get_or sizes k 0 → IsHopeless free sizes k card → IsHopeless free sizes k other
hopeless-filled free sizes k card other a b full none = by_test (card == other) refl
  where
    by_test : (test : Bool) → (card == other) ≡ test → IsHopeless free sizes k other
    by_test true t = let same : card ≡ other = grind (arith, nat_tests) in subst (λ (c : ℕ). IsHopeless free sizes k c) same none
    by_test false t = λ fits some.
        let apart : card ≢ other = grind (arith, nat_tests) in
        none (omega (arith, full)) (map (λ c. moved card other c) some.0, packing-moved free (remove sizes k) some.0 card other (get_or sizes k 0) a b apart full fits some.1)

-- if the roomiest card below the limit is hopeless, each card with at least its room is
pub tried-next : (free sizes : List ℕ) (k below card : ℕ) → card < length free → ((other : ℕ) → other < length free → get_or free other 0 < below → get_or free other 0 ≤ get_or free card 0) → ((other : ℕ) → other < length free → below ≤ get_or free other 0 → IsHopeless free sizes k other) → IsHopeless free sizes k card → (other : ℕ) → other < length free → get_or free card 0 ≤ get_or free other 0 → IsHopeless free sizes k other
tried-next free sizes k below card there most tried here other inside roomy = by_below (nat_lt (get_or free other 0) below) refl (card == other) refl
  where
    by_below : (p : Bool) → nat_lt (get_or free other 0) below ≡ p → (q : Bool) → (card == other) ≡ q → IsHopeless free sizes k other
    by_below false e q f = tried other inside (grind (arith, nat_tests))
    by_below true e true f = let same : card ≡ other = grind (arith, nat_tests) in subst (λ (c : ℕ). IsHopeless free sizes k c) same here
    by_below true e false f =
        let apart : card ≢ other = grind (arith, nat_tests) in
        let less : get_or free other 0 < below = grind (arith, nat_tests) in
        let le = most other inside less in
        hopeless-twin free sizes k card other there inside apart (omega (arith, le, roomy)) here

-- if all cards have less room than a limit, each packing
-- has its sizes on cards with less room than the limit
pub lies-all : (free sizes : List ℕ) (card size last limit : ℕ) → card < length free → ((at : ℕ) → get_or free at 0 < limit) → LiesBelow (left free card size) sizes last limit
lies-all free sizes card size last limit there all = λ cards at packs inside same. by_test (get_or cards at 0) (get_or cards at 0 == card) refl
  where
    by_test : (on : ℕ) (test : Bool) → (on == card) ≡ test → get_or (left free card size) on 0 < limit
    by_test on true t =
        let same : card ≡ on = grind (arith, nat_tests) in
        subst (λ (i : ℕ). get_or (left free card size) i 0 < limit) same (omega (arith, all card, get_or-set_same free card (get_or free card 0 - size) 0 there))
    by_test on false t =
        let apart : on ≢ card = grind (arith, nat_tests) in
        omega (arith, all on, get_or-set_other free card on (get_or free card 0 - size) 0 apart)

-- if the size does not fill the chosen card, that card is the roomiest with less room than the limit
chosen-most : (free : List ℕ) (size below card : ℕ) → IsNextCard free size below card → get_or free card 0 ≢ size → (get_or free card 0 < below) × ((other : ℕ) → other < length free → get_or free other 0 < below → get_or free other 0 ≤ get_or free card 0)
chosen-most free size below card next apart = ⊎_elim (λ full. absurd (apart full)) (λ most. most) next.chosen

pub chosen-less : (free : List ℕ) (size below card : ℕ) → IsNextCard free size below card → get_or free card 0 ≢ size → get_or free card 0 < below
chosen-less free size below card next apart = (chosen-most free size below card next apart).0

pub lies-next : (free before sizes : List ℕ) (k below card size : ℕ) → IsTriedFrom free before sizes k below → IsNextCard free size below card → get_or sizes k 0 ≡ size → get_or free card 0 ≢ size → LiesBelow (left free card size) (remove sizes k) size (get_or free card 0 + 1)
lies-next free before sizes k below card size tried next is apart =
    lies-rest free sizes k card size next.there is next.fits (λ other inside more. by_test other inside more (nat_lt (get_or free other 0) below) refl)
  where
    by_test : (other : ℕ) → other < length free → get_or free card 0 < get_or free other 0 → (test : Bool) → nat_lt (get_or free other 0) below ≡ test → IsHopeless free sizes k other
    by_test other inside more true t =
        let less : get_or free other 0 < below = grind (arith, nat_tests) in
        let le = (chosen-most free size below card next apart).1 other inside less in
        absurd (omega (arith, le, more))
    by_test other inside more false t = tried.1 other inside (grind (arith, nat_tests))

pub tried-on : (before free now sizes : List ℕ) (k below card room : ℕ) → IsTriedFrom free before sizes k below → now ≡ free → IsNextCard free (get_or sizes k 0) below card → get_or free card 0 ≢ get_or sizes k 0 → IsHopeless free sizes k card → room ≡ get_or free card 0 → IsTriedFrom now before sizes k room
tried-on before free now sizes k below card room tried same next apart here is = (
  same ∙ tried.0,
  subst (λ (f : List ℕ). (other : ℕ) → other < length f → room ≤ get_or f other 0 → IsHopeless f sizes k other) (sym same)
      (λ other inside roomy. tried-next free sizes k below card next.there (chosen-most free (get_or sizes k 0) below card next apart).1 tried.1 here other inside (omega (arith, is, roomy))),
)

-- at the start, each card with the limit's room or more is hopeless,
-- since each packing has the equal sizes on cards with less room
pub tried-lies : (free sizes : List ℕ) (k last limit : ℕ) → k < length sizes → get_or sizes k 0 ≡ last → LiesBelow free sizes last limit → IsTriedFrom free free sizes k limit
tried-lies free sizes k last limit inside is lies = (refl, λ card there roomy. hopeless-lies free sizes k last limit card inside there is lies roomy)

pub tried-none : (free sizes : List ℕ) (k limit : ℕ) → ((at : ℕ) → get_or free at 0 < limit) → IsTriedFrom free free sizes k limit
tried-none free sizes k limit all = (refl, λ card there roomy. absurd (omega (arith, all card, roomy)))
