-- The places of the tests of a plan, whose numbers ascend.
use Rattle.std.proofs.Common.{◌≡◌, ◌∙◌, sym, ap, subst, Bool, false, ℕ, zero, suc, ◌+◌, ◌<◌, ◌≤◌, List, [], ◌∷◌, length, get_or, map, arith, refl, ⊎_elim}
use Rattle.std.specs.Prelude.{Some, None, Result, Ok, Err, MatchOption, ◌==◌, cond, slice_get}
use Rattle.std.specs.List.Sorted.{IsBinarySearchResult, IsNonDecreasingBy, IsSearchInRange}
use Rattle.std.specs.Ordering.{nat_cmp, ordering_index}
use Rattle.std.specs.Result.{result_ok}
use Rattle.std.proofs.lemmas.Bool.{cases_lt, false_from_ne_true, eqb-true}
use Rattle.std.proofs.lemmas.Bool.Decides.{nat_tests}
use Rattle.std.proofs.lemmas.Cmp.{ranked}
use Rattle.std.proofs.lemmas.List.{get_or_default}
use Rattle.std.proofs.lemmas.Option.{slice_get-get_or}
use Rattle.ct_history.specs.declared.plan.PlanTest.{PlanTest}
use Rattle.ct_history.specs.Plan.{IsAscendingFrom, IsPlaceOf, test_at}
use Rattle.ct_history.proofs.PlanLemmas.{contained_at}

-- the number of the test at a place is at least the bound from which the numbers ascend
pub place_bound : (least : ℕ) (ts : List PlanTest) (place : ℕ) (t : PlanTest) → IsAscendingFrom least (map (λ (x : PlanTest). x.number) ts) → slice_get ts place ≡ Some t → least ≤ t.number
place_bound least [] place t ascends is = cc
place_bound least (x ∷ xs) zero t ascends is = let same : x ≡ t = cc in subst (λ (y : PlanTest). least ≤ y.number) same ascends.0
place_bound least (x ∷ xs) (suc k) t ascends is = let later = place_bound (x.number + 1) xs k t ascends.1 is in omega (arith, ascends.0, later)

bound_at : (least : ℕ) (ts : List PlanTest) → IsAscendingFrom least (map (λ (t : PlanTest). t.number) ts) → (k : ℕ) (d : PlanTest) → k < length ts → least ≤ (get_or ts k d).number
bound_at least [] ascends k d lt = absurd (omega (arith, lt))
bound_at least (t ∷ ts) ascends zero d lt = ascends.0
bound_at least (t ∷ ts) ascends (suc k) d lt = omega (arith, ascends.0, bound_at (t.number + 1) ts ascends.1 k d (omega (arith, lt)))

numbers_rise : (least : ℕ) (ts : List PlanTest) → IsAscendingFrom least (map (λ (t : PlanTest). t.number) ts) → (i j : ℕ) (d : PlanTest) → i ≤ j → j < length ts → (get_or ts i d).number ≤ (get_or ts j d).number
numbers_rise least [] ascends i j d le lt = absurd (omega (arith, lt))
numbers_rise least (t ∷ ts) ascends zero zero d le lt = omega arith
numbers_rise least (t ∷ ts) ascends zero (suc j) d le lt = omega (arith, bound_at (t.number + 1) ts ascends.1 j d (omega (arith, lt)))
numbers_rise least (t ∷ ts) ascends (suc i) zero d le lt = absurd (omega (arith, le))
numbers_rise least (t ∷ ts) ascends (suc i) (suc j) d le lt = numbers_rise (t.number + 1) ts ascends.1 i j d (omega (arith, le)) (omega (arith, lt))

index_rises : (a b n : ℕ) → a ≤ b → ordering_index (nat_cmp a n) ≤ ordering_index (nat_cmp b n)
index_rises a b n le = grind (arith, nat_tests)

-- where no test has the number, none is found
none_found : (tests : List PlanTest) (number : ℕ) → ((k : ℕ) (d : PlanTest) → k < length tests → (get_or tests k d).number ≡ number → ⊥) → test_at tests number ≡ None
none_found [] number none = refl
none_found (t ∷ tests) number none =
    let other : (t.number == number) ≡ false = false_from_ne_true (t.number == number) (λ is. none 0 t (omega arith) (eqb-true t.number number is)) in
    ap (λ (b : Bool). cond b (Some t) (test_at tests number)) other ∙ none_found tests number (λ k d lt same. none (suc k) d (omega (arith, lt)) same)

-- the place where a test with this number was found is its place
pub place_here : (tests : List PlanTest) (number place : ℕ) (t : PlanTest) → IsAscendingFrom 1 (map (λ (x : PlanTest). x.number) tests) → place < length tests → t ≡ get_or tests place t → t.number ≡ number → IsPlaceOf tests number place
place_here tests number place t ascends lt is same = record {
  within = lt;
  there =
      slice_get-get_or tests place t lt ∙ ap (λ (x : PlanTest). Some x) (sym is)
      ∙ sym (contained_at 1 tests t ascends (place, lt, sym is))
      ∙ ap (test_at tests) same;
}

-- where the test at a place has the number, whatever is read past the last place, it is the place of that test
place_there : (tests : List PlanTest) (number place : ℕ) → IsAscendingFrom 1 (map (λ (t : PlanTest). t.number) tests) → place < length tests → ((d : PlanTest) → (get_or tests place d).number ≡ number) → IsPlaceOf tests number place
place_there [] number place ascends lt here = absurd (omega (arith, lt))
place_there (x ∷ xs) number place ascends lt here =
    let tests = x ∷ xs in
    let t = get_or tests place x in
    place_here tests number place t ascends lt (sym (get_or_default tests place t x lt)) (here x)

module _ (tests : List PlanTest) (number : ℕ) (ascends : IsAscendingFrom 1 (map (λ (t : PlanTest). t.number) tests)) where
  rises : IsNonDecreasingBy (λ (t : PlanTest). ordering_index (nat_cmp t.number number)) tests
  rises i j d le lt = index_rises (get_or tests i d).number (get_or tests j d).number number (numbers_rise 1 tests ascends i j d le lt)

  -- what a search for a number among those of the tests finds
  pub searched_place : (r : Result ℕ ℕ) → IsSearchInRange r (length tests) → IsBinarySearchResult (λ (t : PlanTest). nat_cmp t.number number) tests r → MatchOption (result_ok r) (test_at tests number ≡ None) (λ place. IsPlaceOf tests number place)
  searched_place (Ok place) within equal = place_there tests number place ascends within (λ d. ranked _ number _ (sym (equal d)))
  searched_place (Err gap) within parted =
      none_found tests number (λ k d lt same.
      ⊎_elim
      (λ (before : k < gap). let less = ranked _ number _ (sym ((parted rises).0 k d (omega arith) before)) in omega (arith, less, same))
      (λ (behind : gap ≤ k). let more = ranked _ number _ (sym ((parted rises).1 k d behind lt)) in omega (arith, more, same))
      (cases_lt k gap))
