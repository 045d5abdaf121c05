-- Two cards with the same free slots can change places in a packing, so a try of one of them is enough.
use Rattle.std.proofs.Common.{◌≡◌, ◌≢◌, ◌∙◌, sym, ap, subst, refl, ℕ, ◌-◌, ◌<◌, Bool, true, false, cond, ◌==◌, List, [], ◌∷◌, length, map, get_or, arith, nat_lt, length-set, get_or-set_same, get_or-set_other}
use Rattle.std.specs.List.{remove, list_all}
use Rattle.std.proofs.lemmas.Bool.{and_parts, and_from}
use Rattle.std.proofs.lemmas.Bool.Decides.{nat_tests}
use Rattle.std.proofs.lemmas.List.{length-map}
use Rattle.ct_alloc.specs.Packing.{load, IsPacking}
use Rattle.ct_alloc.proofs.PackLemmas.{IsHopeless, left, share}

-- the card, if these two cards change places
abbrev pub twin : ℕ → ℕ → ℕ → ℕ
twin one other card = cond (card == one) other (cond (card == other) one card)

twin-at : (one other card place : ℕ) → (twin one other card == place) ≡ (card == twin one other place)
twin-at one other card place = by_card (card == one) refl (card == other) refl (place == one) refl (place == other) refl
  where
    by_card : (a : Bool) → (card == one) ≡ a → (b : Bool) → (card == other) ≡ b → (p : Bool) → (place == one) ≡ p → (q : Bool) → (place == other) ≡ q → (twin one other card == place) ≡ (card == twin one other place)
    by_card true e b f true g q h = rw (e, g) (grind (arith, nat_tests))
    by_card true e b f false g true h = rw (e, g, h) (grind (arith, nat_tests))
    by_card true e b f false g false h = rw (e, g, h) (grind (arith, nat_tests))
    by_card false e true f true g q h = rw (e, f, g) (grind (arith, nat_tests))
    by_card false e true f false g true h = rw (e, f, g, h) (grind (arith, nat_tests))
    by_card false e true f false g false h = rw (e, f, g, h) (grind (arith, nat_tests))
    by_card false e false f true g q h = rw (e, f, g) (grind (arith, nat_tests))
    by_card false e false f false g true h = rw (e, f, g, h) (grind (arith, nat_tests))
    by_card false e false f false g false h = rw (e, f, g, h) refl

twin-load : (one other place : ℕ) (sizes cards : List ℕ) → load place sizes (map (λ c. twin one other c) cards) ≡ load (twin one other place) sizes cards
twin-load one other place [] cards = refl
twin-load one other place (size ∷ sizes) [] = refl
twin-load one other place (size ∷ sizes) (card ∷ cards) =
    let again = twin-load one other place sizes cards in
    let here : share place (twin one other card) size ≡ share (twin one other place) card size = ap (λ b. cond b size 0) (twin-at one other card place) in
    omega (arith, here, again)

twin-within : (one other n : ℕ) (cards : List ℕ) → one < n → other < n → list_all (λ c. nat_lt c n) cards ≡ true → list_all (λ c. nat_lt c n) (map (λ c. twin one other c) cards) ≡ true
twin-within one other n [] a b all = refl
twin-within one other n (card ∷ cards) a b all =
    let both = and_parts (nat_lt card n) (list_all (λ c. nat_lt c n) cards) all in
    and_from (nat_lt (twin one other card) n) (list_all (λ c. nat_lt c n) (map (λ c. twin one other c) cards)) (by_test both.0 (card == one) refl (card == other) refl) (twin-within one other n cards a b both.1)
  where
    by_test : nat_lt card n ≡ true → (p : Bool) → (card == one) ≡ p → (q : Bool) → (card == other) ≡ q → nat_lt (twin one other card) n ≡ true
    by_test here true e q f = rw e (grind (arith, nat_tests))
    by_test here false e true f = rw (e, f) (grind (arith, nat_tests))
    by_test here false e false f = rw (e, f) here

twin-left : (free : List ℕ) (one other size place : ℕ) → one < length free → other < length free → one ≢ other → get_or free one 0 ≡ get_or free other 0 → get_or (left free other size) (twin one other place) 0 ≡ get_or (left free one size) place 0
twin-left free one other size place a b apart same = by_test (place == one) refl (place == other) refl
  where
    apart_too : other ≢ one
    apart_too = λ e. apart (sym e)

    by_test : (p : Bool) → (place == one) ≡ p → (q : Bool) → (place == other) ≡ q → get_or (left free other size) (twin one other place) 0 ≡ get_or (left free one size) place 0
    by_test true e q f =
        let here : place ≡ one = grind (arith, nat_tests) in
        let now : get_or (left free one size) place 0 ≡ get_or free one 0 - size = ap (λ (i : ℕ). get_or (left free one size) i 0) here ∙ get_or-set_same free one (get_or free one 0 - size) 0 a in
        let then_ : get_or (left free other size) other 0 ≡ get_or free other 0 - size = get_or-set_same free other (get_or free other 0 - size) 0 b in
        rw e (then_ ∙ ap (λ (n : ℕ). n - size) (sym same) ∙ sym now)
    by_test false e true f =
        let here : place ≡ other = grind (arith, nat_tests) in
        let now : get_or (left free one size) place 0 ≡ get_or free other 0 = ap (λ (i : ℕ). get_or (left free one size) i 0) here ∙ get_or-set_other free one other (get_or free one 0 - size) 0 apart_too in
        let then_ : get_or (left free other size) one 0 ≡ get_or free one 0 = get_or-set_other free other one (get_or free other 0 - size) 0 apart in
        rw (e, f) (then_ ∙ same ∙ sym now)
    by_test false e false f =
        let no_one : place ≢ one = grind (arith, nat_tests) in
        let no_other : place ≢ other = grind (arith, nat_tests) in
        rw (e, f) (get_or-set_other free other place (get_or free other 0 - size) 0 no_other ∙ sym (get_or-set_other free one place (get_or free one 0 - size) 0 no_one))

-- if a size on one card leads to no packing, neither does it on another card with the same free slots
pub hopeless-twin : (free sizes : List ℕ) (k one other : ℕ) → one < length free → other < length free → one ≢ other → get_or free one 0 ≡ get_or free other 0 → IsHopeless free sizes k one → IsHopeless free sizes k other
hopeless-twin free sizes k one other a b apart same none = λ fits some.
    let size : ℕ = get_or sizes k 0 in
    let packs : IsPacking (left free other (get_or sizes k 0)) (remove sizes k) some.0 = some.1 in
    let many : length (left free other (get_or sizes k 0)) ≡ length free = length-set free other (get_or free other 0 - get_or sizes k 0) in
    let many_one : length (left free one (get_or sizes k 0)) ≡ length free = length-set free one (get_or free one 0 - get_or sizes k 0) in
    let within : list_all (λ c. nat_lt c (length free)) some.0 ≡ true = subst (λ (n : ℕ). list_all (λ c. nat_lt c n) some.0 ≡ true) many packs.within in
    none (omega (arith, same, fits)) (
      map (λ c. twin one other c) some.0,
      record {
        count = length-map some.0 (λ c. twin one other c) ∙ packs.count;
        within = subst (λ (n : ℕ). list_all (λ c. nat_lt c n) (map (λ c. twin one other c) some.0) ≡ true) (sym many_one) (twin-within one other (length free) some.0 a b within);
        room = λ place. (let le = packs.room (twin one other place) in omega (arith, le, twin-load one other place (remove sizes k) some.0, twin-left free one other (get_or sizes k 0) place a b apart same));
      },
    )
