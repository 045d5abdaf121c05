-- The places of the tests of a plan: by their number, by their place, and in the queue.
use Rattle.std.proofs.Common.{◌≡◌, ◌∙◌, sym, subst, Bool, false, not, cond, ◌==◌, eqb, ℕ, zero, suc, ◌+◌, ◌<◌, ◌≤◌, List, [], ◌∷◌, length, filter, get_or, drop, Contains, slice_get, refl, arith, inl, inr}
use Rattle.std.specs.Prelude.{Some}
use Rattle.std.specs.List.{IsDistinct}
use Rattle.std.proofs.lemmas.Bool.{true≢false, cases_Bool, cases_eq, cases_lt, cases_order, eq-eqb, ne_eqb, or_from}
use Rattle.std.proofs.lemmas.Bool.Decides.{Decides-eqb}
use Rattle.std.proofs.lemmas.List.{length-map}
use Rattle.std.proofs.lemmas.List.Elements.{Contains-get_or}
use Rattle.std.proofs.lemmas.List.Sorted.{IsPermutation-sym, length_permutation}
use Rattle.std.proofs.lemmas.List.Sums.{count_by-le-length, fails_before_first, length-filter}
use Rattle.std.proofs.lemmas.Map.Keys.{IsDistinct-IsPermutation}
use Rattle.std.proofs.lemmas.Map.Made.{AllPairs-from_IsDistinct, IsDistinct-from_AllPairs}
use Rattle.std.proofs.lemmas.Option.{get_or_from_slice_get, none-some, same_Some, slice_get_read, slice_get_within}
use Rattle.ct_base.specs.Numbers.{is_in}
use Rattle.ct_history.specs.declared.plan.PlanTest.{PlanTest}
use Rattle.ct_history.specs.declared.plan.PlanParts.{PlanParts}
use Rattle.ct_history.specs.Plan.{IsAscendingFrom, IsSound, enabled, test_at}
use Rattle.ct_history.proofs.BoolLemmas.{eq_more}
use Rattle.ct_history.proofs.PlanLemmas.{contained_at, numbers_of}
use Rattle.ct_history.proofs.ProgressLemmas.{found_contains}
use Rattle.ct_history.proofs.AscendLemmas.{ascends_sooner, pairs_ascend}
use Rattle.ct_queue.specs.Ready.{NamesOnce, StandsIn, place_of}
use Rattle.ct_queue.proofs.CallerLemmas.{place_of_test}

pub ascend-filter : (p : PlanTest → Bool) (least : ℕ) (ts : List PlanTest) → IsAscendingFrom least (numbers_of ts) → IsAscendingFrom least (numbers_of (filter p ts))
ascend-filter p least [] ascends = tt
ascend-filter p least (t ∷ ts) ascends =
    let rest = ascend-filter p (t.number + 1) ts ascends.1 in
    elim (cases_Bool (p t)) [
      | inl kept ↦ subst (λ (b : Bool). IsAscendingFrom least (numbers_of (cond b (t ∷ filter p ts) (filter p ts)))) (sym kept) (ascends.0, rest)
      | inr gone ↦
          subst (λ (b : Bool). IsAscendingFrom least (numbers_of (cond b (t ∷ filter p ts) (filter p ts)))) (sym gone)
          (ascends_sooner least (t.number + 1) (numbers_of (filter p ts)) (omega (arith, ascends.0)) rest)
    ]

pub ascend-drop : (least at : ℕ) (ns : List ℕ) → IsAscendingFrom least ns → IsAscendingFrom least (drop at ns)
ascend-drop least zero ns ascends = ascends
ascend-drop least (suc at) [] ascends = tt
ascend-drop least (suc at) (n ∷ ns) ascends = ascends_sooner least (n + 1) (drop at ns) (omega (arith, ascends.0)) (ascend-drop (n + 1) at ns ascends.1)

-- a number below the bound is not among the numbers
pub none_lesser : (least n : ℕ) (ns : List ℕ) → IsAscendingFrom least ns → n < least → is_in ns n ≡ false
none_lesser least n [] ascends less = refl
none_lesser least n (m ∷ ms) ascends less =
    or_from (m == n) (is_in ms n) (eq_more m n (omega (arith, ascends.0, less))) (none_lesser (m + 1) n ms ascends.1 (omega (arith, ascends.0, less)))

there_bound : (least : ℕ) (ts : List PlanTest) (place : ℕ) (t : PlanTest) → IsAscendingFrom least (numbers_of ts) → slice_get ts place ≡ Some t → least ≤ t.number
there_bound least [] place t ascends there = absurd (none-some t there)
there_bound least (x ∷ xs) zero t ascends there = subst (λ (y : PlanTest). least ≤ y.number) (same_Some x t there) ascends.0
there_bound least (x ∷ xs) (suc place) t ascends there =
    let later = there_bound (x.number + 1) xs place t ascends.1 there in
    omega (arith, ascends.0, later)

-- the numbers ascend with the places
pub places_ascend : (least : ℕ) (ts : List PlanTest) (p q : ℕ) (t u : PlanTest) → IsAscendingFrom least (numbers_of ts) → slice_get ts p ≡ Some t → slice_get ts q ≡ Some u → p < q → t.number < u.number
places_ascend least [] p q t u ascends there other less = absurd (none-some t there)
places_ascend least (x ∷ xs) p zero t u ascends there other less = absurd (omega (arith, less))
places_ascend least (x ∷ xs) zero (suc q) t u ascends there other less =
    let later = there_bound (x.number + 1) xs q u ascends.1 other in
    subst (λ (y : PlanTest). y.number < u.number) (same_Some x t there) (omega (arith, later))
places_ascend least (x ∷ xs) (suc p) (suc q) t u ascends there other less = places_ascend (x.number + 1) xs p q t u ascends.1 there other (omega (arith, less))

-- tests with the same number stand at the same place
pub one_place : (ts : List PlanTest) (p q : ℕ) (t u : PlanTest) → IsAscendingFrom 1 (numbers_of ts) → slice_get ts p ≡ Some t → slice_get ts q ≡ Some u → t.number ≡ u.number → p ≡ q
one_place ts p q t u ascends there other same = elim (cases_order p q) [
  | inl is ↦ is
  | inr apart ↦ elim apart [
    | inl less ↦ absurd (omega (arith, same, places_ascend 1 ts p q t u ascends there other less))
    | inr more ↦ absurd (omega (arith, same, places_ascend 1 ts q p u t ascends other there more))
  ]
]

-- a test that was looked up has a place
pub found_place : (ts : List PlanTest) (n : ℕ) (t : PlanTest) → test_at ts n ≡ Some t → (place : ℕ) × (slice_get ts place ≡ Some t)
found_place ts n t found =
    let at = found_contains (λ (x : PlanTest). x.number == n) ts t found in
    (at.0, slice_get_read ts (length ts) at.0 t refl at.1 (sym at.2))

-- a test at a place is found by its number
pub there_found : (ts : List PlanTest) (place : ℕ) (t : PlanTest) → IsAscendingFrom 1 (numbers_of ts) → slice_get ts place ≡ Some t → test_at ts t.number ≡ Some t
there_found ts place t ascends there = contained_at 1 ts t ascends (place, slice_get_within ts place t there, get_or_from_slice_get ts place t t there)

-- if a list contains a test's number, the test stands in it as an order
pub stands_from_contains : (order : List ℕ) (n : ℕ) → Contains order n → StandsIn order n
stands_from_contains order n is = elim (cases_lt (place_of order n) (length order)) [
  | inl stands ↦ stands
  | inr past ↦
      let fails : eqb (get_or order is.0 n) n ≡ false = fails_before_first (λ t. eqb t n) order is.0 n (omega (arith, past, is.1)) in
      absurd (true≢false (sym (eq-eqb (get_or order is.0 n) n is.2) ∙ fails))
]

eqb_flips : (x y : ℕ) → eqb x y ≡ eqb y x
eqb_flips x y = elim (cases_eq x y) [
  | inl same ↦ eq-eqb x y same ∙ sym (eq-eqb y x (sym same))
  | inr apart ↦ ne_eqb x y apart ∙ sym (ne_eqb y x (λ same. apart (sym same)))
]

module _ (plan : PlanParts) (sound : IsSound plan) where
  distinct_numbers : IsDistinct eqb (numbers_of (enabled plan.tests))
  distinct_numbers =
      let ns = numbers_of (enabled plan.tests) in
      let ascends : IsAscendingFrom 1 ns = ascend-filter (λ (t : PlanTest). not t.disabled) 1 plan.tests sound.numbers in
      IsDistinct-from_AllPairs Decides-eqb ns (λ i j d before within.
      let less : get_or ns i d < get_or ns j d = pairs_ascend 1 ns ascends i j d before within in
      λ same. omega (arith, less, same))

  -- the queue names each test once
  pub queue_once : NamesOnce plan.queue
  queue_once =
      let ns = numbers_of (enabled plan.tests) in
      AllPairs-from_IsDistinct Decides-eqb plan.queue
      (IsDistinct-IsPermutation eqb eqb_flips ns plan.queue (IsPermutation-sym plan.queue ns sound.queue) distinct_numbers)

  -- the queue has at most as many tests as the plan
  pub queue_fits : length plan.queue ≤ length plan.tests
  queue_fits =
      let ns = numbers_of (enabled plan.tests) in
      let same : length ns ≡ length plan.queue = length_permutation plan.queue ns sound.queue in
      let mapped : length ns ≡ length (enabled plan.tests) = length-map (enabled plan.tests) (λ (t : PlanTest). t.number) in
      let counted = length-filter (λ (t : PlanTest). not t.disabled) plan.tests in
      let most = count_by-le-length (λ (t : PlanTest). not t.disabled) plan.tests in
      omega (arith, same, mapped, counted, most)

  -- the test at a place of the queue stands in the queue
  pub stands_there : (place : ℕ) → place < length plan.queue → StandsIn plan.queue (get_or plan.queue place 0)
  stands_there place within = stands_from_contains plan.queue (get_or plan.queue place 0) (Contains-get_or plan.queue place 0 within)

  pub place_there : (place : ℕ) → place < length plan.queue → place_of plan.queue (get_or plan.queue place 0) ≡ place
  place_there place within = place_of_test plan.queue place queue_once within
