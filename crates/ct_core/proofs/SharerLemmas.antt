-- How many tests share a lock, once one name more of a test's list was looked at.
use Rattle.std.proofs.Common.{◌≡◌, ◌∙◌, sym, ap, Bool, true, false, ℕ, ◌+◌, ◌-◌, ◌<◌, List, get_or, length, take, cond, refl, arith, inl, inr}
use Rattle.std.specs.Prelude.{◌||◌, bytes_eq}
use Rattle.std.proofs.Math.Bool.{or-false}
use Rattle.std.proofs.lemmas.Bool.{cases_Bool, or_right}
use Rattle.std.proofs.lemmas.List.Folds.{list_any_at, list_any_more}
use Rattle.std.proofs.lemmas.Slice.Eq.{bytes_eq-Decides}
use Rattle.ct_core.specs.Sharers.{one_if}
use Rattle.ct_base.specs.Names.{is_among}

-- one name more was looked at
pub seen_more : (names : List (List ℕ)) (at : ℕ) (name : List ℕ) → at < length names → get_or names at name ≡ name → (asked : List ℕ) → is_among asked (take (at + 1) names) ≡ (is_among asked (take at names) || bytes_eq asked name)
seen_more names at name lt is asked =
    list_any_more (λ (other : List ℕ). bytes_eq asked other) names at name lt
    ∙ ap (λ (other : List ℕ). is_among asked (take at names) || bytes_eq asked other) is

-- a name of the list is among its names
pub among_at : (names : List (List ℕ)) (at : ℕ) (name : List ℕ) → at < length names → get_or names at name ≡ name → is_among name names ≡ true
among_at names at name lt is =
    list_any_at (λ (other : List ℕ). bytes_eq name other) names at name lt ((bytes_eq-Decides name (get_or names at name)).1 (sym is))

module _ (seen : List ℕ → Bool) (name asked : List ℕ) where
  -- a name that was seen before changes nothing
  pub seen_again : seen name ≡ true → (seen asked || bytes_eq asked name) ≡ seen asked
  seen_again again = elim (cases_Bool (bytes_eq asked name)) [
    | inl same ↦
        let here : seen asked ≡ true = ap seen ((bytes_eq-Decides asked name).0 same) ∙ again in
        ap (λ (b : Bool). b || bytes_eq asked name) here ∙ sym here
    | inr other ↦ ap (λ (b : Bool). seen asked || b) other ∙ or-false (seen asked)
  ]

-- a name whose mark is taken away, beside those whose marks were
pub mark_less : (marked seen is : Bool) → (seen ≡ true → marked ≡ false) → (seen || is) ≡ true → cond is false marked ≡ false
mark_less marked seen true unmarked among = refl
mark_less marked seen false unmarked among = unmarked (sym (or-false seen) ∙ among)

-- a count that is set to what it is
pub set_again : (cur : List ℕ → ℕ) (name asked : List ℕ) (is : Bool) → bytes_eq asked name ≡ is → cond is (cur name) (cur asked) ≡ cur asked
set_again cur name asked true same = ap cur (sym ((bytes_eq-Decides asked name).0 same))
set_again cur name asked false other = refl

module _ (seen : List ℕ → Bool) (cur old : List ℕ → ℕ) (name : List ℕ) (fresh : seen name ≡ false) where
  -- a name that was not seen before counts one test more
  pub count_more : ((n : List ℕ) → cur n ≡ old n + one_if (seen n)) → (count : ℕ) → count ≡ cur name + 1 → (asked : List ℕ) (new : ℕ) → new ≡ cond (bytes_eq asked name) count (cur asked) → new ≡ old asked + one_if (seen asked || bytes_eq asked name)
  count_more kept count is asked new set = elim (cases_Bool (bytes_eq asked name)) [
    | inl same ↦
        let this : asked ≡ name = (bytes_eq-Decides asked name).0 same in
        let now : new ≡ count = set ∙ ap (λ (b : Bool). cond b count (cur asked)) same in
        let one : one_if (seen asked || bytes_eq asked name) ≡ 1 = ap (λ (b : Bool). one_if (seen asked || b)) same ∙ ap one_if (or_right (seen asked) true refl) in
        let none : one_if (seen name) ≡ 0 = ap one_if fresh in
        omega (arith, now, is, kept name, one, none, ap old this)
    | inr other ↦
        let now : new ≡ cur asked = set ∙ ap (λ (b : Bool). cond b count (cur asked)) other in
        let alike : one_if (seen asked || bytes_eq asked name) ≡ one_if (seen asked) = ap (λ (b : Bool). one_if (seen asked || b)) other ∙ ap one_if (or-false (seen asked)) in
        omega (arith, now, kept asked, alike)
  ]

  -- a name that was not seen before counts one test fewer
  pub count_less : ((n : List ℕ) → cur n ≡ old n - one_if (seen n)) → (count : ℕ) → count ≡ cur name - 1 → (asked : List ℕ) (new : ℕ) → new ≡ cond (bytes_eq asked name) count (cur asked) → new ≡ old asked - one_if (seen asked || bytes_eq asked name)
  count_less kept count is asked new set = elim (cases_Bool (bytes_eq asked name)) [
    | inl same ↦
        let this : asked ≡ name = (bytes_eq-Decides asked name).0 same in
        let now : new ≡ count = set ∙ ap (λ (b : Bool). cond b count (cur asked)) same in
        let one : one_if (seen asked || bytes_eq asked name) ≡ 1 = ap (λ (b : Bool). one_if (seen asked || b)) same ∙ ap one_if (or_right (seen asked) true refl) in
        let none : one_if (seen name) ≡ 0 = ap one_if fresh in
        omega (arith, now, is, kept name, one, none, ap old this)
    | inr other ↦
        let now : new ≡ cur asked = set ∙ ap (λ (b : Bool). cond b count (cur asked)) other in
        let alike : one_if (seen asked || bytes_eq asked name) ≡ one_if (seen asked) = ap (λ (b : Bool). one_if (seen asked || b)) other ∙ ap one_if (or-false (seen asked)) in
        omega (arith, now, kept asked, alike)
  ]
