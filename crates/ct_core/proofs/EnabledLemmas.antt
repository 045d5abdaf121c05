-- The queue of a sound plan has the plan's enabled tests, and a change of one test leaves the others.
use Rattle.std.proofs.Common.{◌≡◌, ◌∙◌, sym, ap, Bool, true, false, ℕ, List, [], ◌∷◌, get_or, refl, inl, inr}
use Rattle.std.specs.Prelude.{Contains, Option, Some, None, not, ◌||◌, ◌==◌, cond, find, map}
use Rattle.std.specs.List.{list_any}
use Rattle.std.proofs.lemmas.Bool.{cases_Bool, eq-eqb, not-true, true≢false}
use Rattle.std.proofs.lemmas.List.{get_or-set_other}
use Rattle.std.proofs.lemmas.List.Folds.{find_at, list_any_at}
use Rattle.std.proofs.lemmas.List.Sorted.{list_any-IsPermutation}
use Rattle.std.proofs.lemmas.List.Sums.{passes_at_first}
use Rattle.std.proofs.lemmas.Option.{slice_get_within}
use Rattle.ct_base.specs.Numbers.{is_in}
use Rattle.ct_history.specs.declared.plan.PlanTest.{PlanTest}
use Rattle.ct_history.specs.declared.plan.PlanParts.{PlanParts}
use Rattle.ct_history.specs.Plan.{IsSound, enabled, test_at}
use Rattle.ct_queue.specs.Ready.{ReadyValue, StandsIn, is_out, place_of, with_out}
use Rattle.ct_queue.proofs.CallerLemmas.{places_apart}
use Rattle.ct_core.proofs.AllowedLemmas.{number_at}
use Rattle.ct_core.proofs.NumberLemmas.{listed, numbers_of, unlisted}

-- a test stands in an order exactly if its number is in the list
stands_one : (order : List ℕ) (j : ℕ) → StandsIn order j → is_in order j ≡ true
stands_one order j stands = list_any_at (λ (n : ℕ). n == j) order (place_of order j) 0 stands (passes_at_first (λ (n : ℕ). n == j) order 0 stands)

any_find : (p : ℕ → Bool) (xs : List ℕ) → list_any p xs ≡ true → (x : ℕ) × (find p xs ≡ Some x)
any_find p [] any = cc
any_find p (x ∷ xs) any = elim (cases_Bool (p x)) [
  | inl here ↦ (x, ap (λ (b : Bool). cond b (Some x) (find p xs)) here)
  | inr other ↦
      let later = any_find p xs (sym (ap (λ (b : Bool). b || list_any p xs) other) ∙ any) in
      (later.0, ap (λ (b : Bool). cond b (Some x) (find p xs)) other ∙ later.1)
]

one_stands : (order : List ℕ) (j : ℕ) → is_in order j ≡ true → StandsIn order j
one_stands order j one =
    let some = any_find (λ (n : ℕ). n == j) order one in
    slice_get_within order (place_of order j) some.0 (sym (find_at (λ (n : ℕ). n == j) order) ∙ some.1)

-- an enabled test of the plan
pub record IsEnabled (plan : PlanParts) (j : ℕ) : Type 0 where
  pub test : PlanTest
  pub found : test_at plan.tests j ≡ Some test
  pub number : test.number ≡ j
  pub itself : test_at plan.tests test.number ≡ Some test
  pub enabled : test.disabled ≡ false

module _ (plan : PlanParts) (sound : IsSound plan) where
  in_queue : (j : ℕ) → is_in plan.queue j ≡ is_in (numbers_of (λ (t : PlanTest). not t.disabled) plan.tests) j
  in_queue j = list_any-IsPermutation (λ (n : ℕ). n == j) plan.queue (map (λ (t : PlanTest). t.number) (enabled plan.tests)) sound.queue

  -- each test of the queue is an enabled test of the plan
  pub queued_enabled : (j : ℕ) → StandsIn plan.queue j → IsEnabled plan j
  queued_enabled j stands = by_test (test_at plan.tests j) refl
    where
      one : is_in (numbers_of (λ (t : PlanTest). not t.disabled) plan.tests) j ≡ true
      one = sym (in_queue j) ∙ stands_one plan.queue j stands

      by_test : (o : Option PlanTest) → test_at plan.tests j ≡ o → IsEnabled plan j
      by_test None found = absurd (true≢false (sym one ∙ unlisted (λ (t : PlanTest). not t.disabled) plan.tests j found))
      by_test (Some t) found =
          let number = number_at plan.tests j t found in
          let itself : test_at plan.tests t.number ≡ Some t = ap (λ (m : ℕ). test_at plan.tests m) number ∙ found in
          let passes : not t.disabled ≡ true = sym (listed (λ (u : PlanTest). not u.disabled) 1 plan.tests t sound.numbers itself) ∙ ap (λ (m : ℕ). is_in (numbers_of (λ (u : PlanTest). not u.disabled) plan.tests) m) number ∙ one in
          record { test = t; found = found; number = number; itself = itself; enabled = not-true t.disabled passes }

  -- the number of each enabled test stands in the queue
  pub enabled_stands : (n : ℕ) → Contains (numbers_of (λ (t : PlanTest). not t.disabled) plan.tests) n → StandsIn plan.queue n
  enabled_stands n (k, lt, is) =
      one_stands plan.queue n
      (in_queue n ∙ list_any_at (λ (m : ℕ). m == n) (numbers_of (λ (t : PlanTest). not t.disabled) plan.tests) k n lt (eq-eqb (get_or (numbers_of (λ (t : PlanTest). not t.disabled) plan.tests) k n) n is))

  pub enabled_queued : (n : ℕ) (t : PlanTest) → test_at plan.tests n ≡ Some t → t.disabled ≡ false → StandsIn plan.queue n
  enabled_queued n t found enabled =
      let number = number_at plan.tests n t found in
      let itself : test_at plan.tests t.number ≡ Some t = ap (λ (m : ℕ). test_at plan.tests m) number ∙ found in
      one_stands plan.queue n
      (in_queue n
      ∙ ap (λ (m : ℕ). is_in (numbers_of (λ (u : PlanTest). not u.disabled) plan.tests) m) (sym number)
      ∙ listed (λ (u : PlanTest). not u.disabled) 1 plan.tests t sound.numbers itself
      ∙ ap not enabled)

-- a change of whether one test is out leaves the others
pub out_other : (ready : ReadyValue) (n j : ℕ) (is : Bool) → StandsIn ready.order n → StandsIn ready.order j → (j ≡ n → ⊥) → is_out (with_out ready n is) j ≡ is_out ready j
out_other ready n j is stands there apart =
    get_or-set_other ready.outs (place_of ready.order n) (place_of ready.order j) is false (λ same. apart (places_apart ready.order j n there stands same))
