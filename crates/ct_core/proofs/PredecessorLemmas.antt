-- The verdicts of a test's predecessors and setups, when one test becomes final.
use Rattle.std.proofs.Common.{◌≡◌, ◌∙◌, sym, ap, Bool, true, false, ℕ, suc, ◌+◌, List, [], ◌∷◌, length, refl, arith, inl, inr}
use Rattle.std.specs.Prelude.{Option, Some, None, is_some, is_none, not, ◌&&◌, ◌||◌, ◌==◌, cond, filter, find, if◌then◌else◌}
use Rattle.std.specs.List.{list_any, list_all}
use Rattle.std.proofs.Math.Bool.{and-false}
use Rattle.std.proofs.lemmas.Bool.{and_parts, cases_Bool, or_parts, true≢false}
use Rattle.std.proofs.lemmas.Bool.Decides.{nat_tests}
use Rattle.ct_base.specs.Numbers.{is_in}
use Rattle.ct_base.proofs.OptionLemmas.{some_is}
use Rattle.ct_verdict.specs.declared.verdict.Verdict.{Verdict}
use Rattle.ct_history.specs.Plan.{IsAscendingFrom}
use Rattle.ct_history.specs.Verdicts.{is_passed_verdict}
use Rattle.ct_core.proofs.QueueLemmas.{none_lesser}

-- 1 if true, else 0
abbrev pub one_if : Bool → ℕ
one_if b = if b then 1 else 0

-- a number that is not a predecessor is not a setup
pub none_of_setups : (n : ℕ) (js ss : List ℕ) → list_all (λ s. list_any (λ j. j == s) js) ss ≡ true → is_in js n ≡ false → is_in ss n ≡ false
none_of_setups n js [] among none = refl
none_of_setups n js (s ∷ ss) among none =
    let both = and_parts (list_any (λ j. j == s) js) (list_all (λ s. list_any (λ j. j == s) js) ss) among in
    elim (cases_Bool (s == n)) [
      | inl here ↦
          let this : s ≡ n = grind (arith, nat_tests) in
          absurd (true≢false (sym both.0 ∙ ap (λ (m : ℕ). is_in js m) this ∙ none))
      | inr other ↦ ap (λ (b : Bool). b || is_in ss n) other ∙ none_of_setups n js ss both.1 none
    ]

-- if all tests are final, the number of tests that are not final is 0
pub none_open : (f : ℕ → Option Verdict) (js : List ℕ) → list_all (λ j. is_some (f j)) js ≡ true → length (filter (λ j. is_none (f j)) js) ≡ 0
none_open f [] all = refl
none_open f (j ∷ js) all =
    let both = and_parts (is_some (f j)) (list_all (λ j. is_some (f j)) js) all in
    ap (λ (b : Bool). length (cond b (j ∷ filter (λ k. is_none (f k)) js) (filter (λ k. is_none (f k)) js))) (not_none (f j) both.0) ∙ none_open f js both.1
  where
    not_none : (o : Option Verdict) → is_some o ≡ true → is_none o ≡ false
    not_none None some = cc
    not_none (Some v) some = refl

-- each verdict stays: final tests stay final, and passed tests stay passed
module _ (f g : ℕ → Option Verdict) (keeps : (j : ℕ) (v : Verdict) → f j ≡ Some v → g j ≡ Some v) where
  passed_is : (o : Option Verdict) → is_passed_verdict o ≡ true → (v : Verdict) × (o ≡ Some v)
  passed_is None passed = cc
  passed_is (Some v) passed = (v, refl)

  pub all_stay : (js : List ℕ) → list_all (λ j. is_some (f j)) js ≡ true → list_all (λ j. is_some (g j)) js ≡ true
  all_stay [] all = refl
  all_stay (j ∷ js) all =
      let both = and_parts (is_some (f j)) (list_all (λ j. is_some (f j)) js) all in
      let some = some_is (f j) both.0 in
      ap (λ (o : Option Verdict). is_some o && list_all (λ k. is_some (g k)) js) (keeps j some.0 some.1) ∙ all_stay js both.1

  pub passed_stay : (js : List ℕ) → is_none (find (λ j. not (is_passed_verdict (f j))) js) ≡ true → is_none (find (λ j. not (is_passed_verdict (g j))) js) ≡ true
  passed_stay [] none = refl
  passed_stay (j ∷ js) none = elim (cases_Bool (is_passed_verdict (f j))) [
    | inl passed ↦
        let some = passed_is (f j) passed in
        let now : is_passed_verdict (g j) ≡ true = ap is_passed_verdict (keeps j some.0 some.1 ∙ sym some.1) ∙ passed in
        ap (λ (b : Bool). is_none (cond (not b) (Some j) (find (λ k. not (is_passed_verdict (g k))) js))) now
        ∙ passed_stay js (sym (ap (λ (b : Bool). is_none (cond (not b) (Some j) (find (λ k. not (is_passed_verdict (f k))) js))) passed) ∙ none)
    | inr failed ↦
        absurd (true≢false (sym none ∙ ap (λ (b : Bool). is_none (cond (not b) (Some j) (find (λ k. not (is_passed_verdict (f k))) js))) failed))
  ]

-- verdicts before and behind, which differ for one number at most
module _ (f g : ℕ → Option Verdict) (n : ℕ) (same : (j : ℕ) → (j == n) ≡ false → g j ≡ f j) where
  pub same_all : (js : List ℕ) → is_in js n ≡ false → list_all (λ j. is_some (g j)) js ≡ list_all (λ j. is_some (f j)) js
  same_all [] none = refl
  same_all (j ∷ js) none =
      let both = or_parts (j == n) (is_in js n) none in
      ap (λ (o : Option Verdict). is_some o && list_all (λ k. is_some (g k)) js) (same j both.0)
      ∙ ap (λ (b : Bool). is_some (f j) && b) (same_all js both.1)

  pub same_first : (js : List ℕ) → is_in js n ≡ false → find (λ j. not (is_passed_verdict (g j))) js ≡ find (λ j. not (is_passed_verdict (f j))) js
  same_first [] none = refl
  same_first (j ∷ js) none =
      let both = or_parts (j == n) (is_in js n) none in
      ap (λ (o : Option Verdict). cond (not (is_passed_verdict o)) (Some j) (find (λ k. not (is_passed_verdict (g k))) js)) (same j both.0)
      ∙ ap (λ (o : Option ℕ). cond (not (is_passed_verdict (f j))) (Some j) o) (same_first js both.1)

  same_open : (js : List ℕ) → is_in js n ≡ false → filter (λ j. is_none (g j)) js ≡ filter (λ j. is_none (f j)) js
  same_open [] none = refl
  same_open (j ∷ js) none =
      let both = or_parts (j == n) (is_in js n) none in
      ap (λ (o : Option Verdict). cond (is_none o) (j ∷ filter (λ k. is_none (g k)) js) (filter (λ k. is_none (g k)) js)) (same j both.0)
      ∙ ap (λ (ks : List ℕ). cond (is_none (f j)) (j ∷ ks) ks) (same_open js both.1)

  module _ (before : f n ≡ None) where
    -- if the number is in the list, not all were final before
    pub not_all : (js : List ℕ) → is_in js n ≡ true → list_all (λ j. is_some (f j)) js ≡ false
    not_all [] one = cc
    not_all (j ∷ js) one = elim (cases_Bool (j == n)) [
      | inl here ↦
          let this : j ≡ n = grind (arith, nat_tests) in
          ap (λ (o : Option Verdict). is_some o && list_all (λ k. is_some (f k)) js) (ap f this ∙ before)
      | inr other ↦
          ap (λ (b : Bool). is_some (f j) && b) (not_all js (sym (ap (λ (b : Bool). b || is_in js n) other) ∙ one)) ∙ and-false (is_some (f j))
    ]

    -- if the number is in the list, one less is not final behind
    pub one_less : is_none (g n) ≡ false → (least : ℕ) (js : List ℕ) → IsAscendingFrom least js → length (filter (λ j. is_none (f j)) js) ≡ length (filter (λ j. is_none (g j)) js) + one_if (is_in js n)
    one_less behind least [] ascends = refl
    one_less behind least (j ∷ js) ascends =
        let fs : List ℕ = filter (λ k. is_none (f k)) js in
        let gs : List ℕ = filter (λ k. is_none (g k)) js in
        elim (cases_Bool (j == n)) [
          | inl here ↦
              let this : j ≡ n = grind (arith, nat_tests) in
              let was : length (filter (λ k. is_none (f k)) (j ∷ js)) ≡ suc (length fs) = ap (λ (o : Option Verdict). length (cond (is_none o) (j ∷ fs) fs)) (ap f this ∙ before) in
              let now : length (filter (λ k. is_none (g k)) (j ∷ js)) ≡ length gs = ap (λ (b : Bool). length (cond b (j ∷ gs) gs)) (ap (λ (k : ℕ). is_none (g k)) this ∙ behind) in
              let alike : length gs ≡ length fs = ap length (same_open js (none_lesser (j + 1) n js ascends.1 (omega (arith, this)))) in
              let one : one_if (is_in (j ∷ js) n) ≡ 1 = ap (λ (b : Bool). one_if (b || is_in js n)) here in
              omega (arith, was, now, alike, one)
          | inr other ↦
              let later : length fs ≡ length gs + one_if (is_in js n) = one_less behind (j + 1) js ascends.1 in
              by_look (is_none (f j)) j fs gs (one_if (is_in js n)) later
              ∙ ap (λ (o : Option Verdict). length (cond (is_none o) (j ∷ gs) gs) + one_if (is_in js n)) (sym (same j other))
              ∙ ap (λ (b : Bool). length (cond (is_none (g j)) (j ∷ gs) gs) + one_if (b || is_in js n)) (sym other)
        ]
      where
        by_look : (b : Bool) (j : ℕ) (xs ys : List ℕ) (k : ℕ) → length xs ≡ length ys + k → length (cond b (j ∷ xs) xs) ≡ length (cond b (j ∷ ys) ys) + k
        by_look true j xs ys k is = omega (arith, is)
        by_look false j xs ys k is = is
