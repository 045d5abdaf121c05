-- Bounds on packings: the weight of the sizes is at most the weight of the free slots.
use Rattle.std.proofs.Common.{◌≡◌, ◌∙◌, sym, ap, refl, ℕ, suc, ◌+◌, ◌-◌, ◌*◌, ◌/◌, ◌<◌, ◌≤◌, Bool, true, false, cond, List, [], ◌∷◌, length, drop, get_or, arith, drop-cons}
use Rattle.std.specs.Prelude.{sum_by, nat_le}
use Rattle.std.specs.List.{remove}
use Rattle.std.proofs.lemmas.List.Sums.{sum_by-cons, sum_by-set}
use Rattle.std.proofs.Math.Nat.{div-mul-le_self}
use Rattle.std.proofs.lemmas.Nat.{le-div}
use Rattle.std.proofs.lemmas.Bool.Decides.{nat_tests}
use Rattle.ct_alloc.specs.Packing.{IsPacking, CannotPack, one_from, reaching, rooms}
use Rattle.ct_alloc.proofs.PackLemmas.{left, packing-less}

-- putting a size on a card lowers the card's weight by at least the weight of the size
abbrev pub Weighs : (ℕ → ℕ) → (ℕ → ℕ) → Type 0
Weighs size_weight card_weight = (size free : ℕ) → size ≤ free → size_weight size + card_weight (free - size) ≤ card_weight free

pub packing-weighs : (v w : ℕ → ℕ) → Weighs v w → (sizes free cards : List ℕ) → IsPacking free sizes cards → sum_by v sizes ≤ sum_by w free
packing-weighs v w weighs [] free cards packs = omega arith
packing-weighs v w weighs (size ∷ sizes) free cards packs =
    let parts = packing-less free (size ∷ sizes) 0 cards (omega arith) packs in
    let on : ℕ = get_or cards 0 0 in
    let again : sum_by v sizes ≤ sum_by w (left free on size) = packing-weighs v w weighs sizes (left free on size) (remove cards 0) parts.packs in
    let lost : sum_by w (left free on size) + w (get_or free on 0) ≡ sum_by w free + w (get_or free on 0 - size) = sum_by-set w free on (get_or free on 0 - size) 0 parts.there in
    let here : v size + w (get_or free on 0 - size) ≤ w (get_or free on 0) = weighs size (get_or free on 0) parts.fits in
    omega (arith, sum_by-cons v size sizes, again, lost, here)

pub reaching-weighs : (least : ℕ) → Weighs (reaching least) (reaching least)
reaching-weighs least size free fits = grind (arith, nat_tests)

pub one_from-weighs : (least : ℕ) → 0 < least → Weighs (one_from least) (rooms least)
one_from-weighs least some size free fits = by_test (nat_le least size) refl
  where
    by_test : (test : Bool) → nat_le least size ≡ test → cond test 1 0 + (free - size) / least ≤ free / least
    by_test true t =
        let le : least ≤ size = grind (arith, nat_tests) in
        let whole : (free - size) / least * least ≤ free - size = div-mul-le_self (free - size) least in
        let more : (1 + (free - size) / least) * least ≤ free = omega arith in
        le-div (1 + (free - size) / least) free least some more
    by_test false t =
        let whole : (free - size) / least * least ≤ free - size = div-mul-le_self (free - size) least in
        let more : (0 + (free - size) / least) * least ≤ free = omega arith in
        le-div (0 + (free - size) / least) free least some more

pub none-sum : (free sizes : List ℕ) (least : ℕ) → sum_by (reaching least) free < sum_by (reaching least) sizes → CannotPack free sizes
none-sum free sizes least less = λ some. absurd (omega (arith, packing-weighs (reaching least) (reaching least) (reaching-weighs least) sizes free some.0 some.1))

pub none-count : (free sizes : List ℕ) (least : ℕ) → 0 < least → sum_by (rooms least) free < sum_by (one_from least) sizes → CannotPack free sizes
none-count free sizes least some less = λ can. absurd (omega (arith, packing-weighs (one_from least) (rooms least) (one_from-weighs least some) sizes free can.0 can.1))

pub sum-drop : (f : ℕ → ℕ) (xs : List ℕ) (i : ℕ) → i < length xs → sum_by f (drop i xs) ≡ f (get_or xs i 0) + sum_by f (drop (i + 1) xs)
sum-drop f xs i inside =
    let next : i + 1 ≡ suc i = omega arith in
    ap (λ (t : List ℕ). sum_by f t) (drop-cons xs i 0 inside) ∙ sum_by-cons f (get_or xs i 0) (drop (suc i) xs) ∙ ap (λ n. f (get_or xs i 0) + sum_by f (drop n xs)) (sym next)
