-- What a list has for the test with a number, where the number is that of a place in it.
use Rattle.std.proofs.Common.{ℕ, ◌≡◌, true, eqb, eqb-true, zero, suc, ◌+◌, ◌-◌, ◌<◌, ◌≤◌, All, List, length, get_or, Some, refl, subst, ap, ◌∙◌, ⊎_elim, arith}
use Rattle.std.proofs.lemmas.List.Elements.{All-contains}
use Rattle.std.proofs.lemmas.List.Folds.{Any-from_list_any}
use Rattle.std.proofs.lemmas.Option.{slice_get_cases, slice_get_read, slice_get_within}
use Rattle.ct_base.specs.Numbers.{is_in}
use Rattle.ct_props.specs.Numbered.{at_number}

-- the item at a place is that of the next number
pub at_number_here : {X : Type 0} (items : List X) (at : ℕ) (item : X) → at < length items → item ≡ get_or items at item → at_number items (at + 1) ≡ Some item
at_number_here items at item within is =
    let next : at + 1 ≡ suc at = omega arith in
    ap (at_number items) next ∙ slice_get_read items (length items) at item refl within is

-- the item that was read for a number is the one that the list has for it
pub at_number_read : {X : Type 0} (items : List X) (number : ℕ) (item : X) → 0 < number → number ≤ length items → item ≡ get_or items (number - 1) item → at_number items number ≡ Some item
at_number_read items number item above within is =
    let same : number ≡ suc (number - 1) = omega (arith, above) in
    ap (at_number items) same ∙ slice_get_read items (length items) (number - 1) item refl (omega (arith, above, within)) is

-- a list has an item for each number from 1 to its length
pub at_number_within : {X : Type 0} (items : List X) (number : ℕ) → 0 < number → number ≤ length items → (item : X) × (at_number items number ≡ Some item)
at_number_within items number above within =
    let same : number ≡ suc (number - 1) = omega (arith, above) in
    ⊎_elim (λ there. (there.0, ap (at_number items) same ∙ there.2)) (λ past. absurd (let far : length items ≤ number - 1 = past.0 in omega (arith, far, above, within))) (slice_get_cases items (number - 1)).1

-- a number for which a list has an item is from 1 to the length of the list
pub number_within : {X : Type 0} (items : List X) (number : ℕ) (item : X) → at_number items number ≡ Some item → (1 ≤ number) × (number ≤ length items)
number_within items zero item is = absurd (cc)
number_within items (suc place) item is = let within : place < length items = slice_get_within items place item is in (omega arith, omega (arith, within))

-- what holds of all numbers of a list holds of each number in it
pub in_all : (P : ℕ → Type 0) (numbers : List ℕ) → All P numbers → (number : ℕ) → is_in numbers number ≡ true → P number
in_all P numbers all number there =
    let one = Any-from_list_any (λ m. eqb m number) numbers there in
    subst P (eqb-true one.1 number one.4) (All-contains P numbers one.1 all (one.0, one.2, one.3))
