-- The numbers of some tests of a plan.
use Rattle.std.proofs.Common.{◌≡◌, ◌∙◌, sym, ap, Bool, false, ℕ, ◌+◌, ◌<◌, List, [], ◌∷◌, refl, arith, inl, inr}
use Rattle.std.specs.Prelude.{Some, None, ◌||◌, ◌==◌, cond, map, filter}
use Rattle.std.proofs.lemmas.Bool.{cases_Bool}
use Rattle.ct_base.specs.Numbers.{is_in}
use Rattle.ct_history.specs.declared.plan.PlanTest.{PlanTest}
use Rattle.ct_history.specs.Plan.{IsAscendingFrom, test_at}
use Rattle.ct_history.proofs.BoolLemmas.{eq_more}

-- the numbers of the tests that pass
abbrev pub numbers_of : (PlanTest → Bool) → List PlanTest → List ℕ
numbers_of p ts = map (λ (t : PlanTest). t.number) (filter p ts)

none_listed : (p : PlanTest → Bool) (m least : ℕ) (ts : List PlanTest) → IsAscendingFrom least (map (λ (x : PlanTest). x.number) ts) → m < least → is_in (numbers_of p ts) m ≡ false
none_listed p m least [] ascends lt = refl
none_listed p m least (x ∷ xs) ascends lt =
    let le = ascends.0 in
    let rest = none_listed p m (x.number + 1) xs ascends.1 (omega (arith, lt, le)) in
    let other : (x.number == m) ≡ false = eq_more x.number m (omega (arith, lt, le)) in
    elim (cases_Bool (p x)) [
      | inl kept ↦
          ap (λ (b : Bool). is_in (map (λ (t : PlanTest). t.number) (cond b (x ∷ filter p xs) (filter p xs))) m) kept
          ∙ ap (λ (b : Bool). b || is_in (numbers_of p xs) m) other ∙ rest
      | inr gone ↦ ap (λ (b : Bool). is_in (map (λ (t : PlanTest). t.number) (cond b (x ∷ filter p xs) (filter p xs))) m) gone ∙ rest
    ]

-- a test's number is among the numbers of the tests that pass exactly if the test passes
pub listed : (p : PlanTest → Bool) (least : ℕ) (ts : List PlanTest) (t : PlanTest) → IsAscendingFrom least (map (λ (x : PlanTest). x.number) ts) → test_at ts t.number ≡ Some t → is_in (numbers_of p ts) t.number ≡ p t
listed p least [] t ascends found = cc
listed p least (x ∷ xs) t ascends found =
    let rest : List ℕ = numbers_of p xs in
    elim (cases_Bool (x.number == t.number)) [
      | inl here ↦
          let both : Some x ≡ Some t = sym (ap (λ (b : Bool). cond b (Some x) (test_at xs t.number)) here) ∙ found in
          let this : x ≡ t = cc in
          let equal : x.number ≡ t.number = ap (λ (y : PlanTest). y.number) this in
          let none : is_in rest t.number ≡ false = none_listed p t.number (x.number + 1) xs ascends.1 (omega (arith, equal)) in
          elim (cases_Bool (p x)) [
            | inl kept ↦
                ap (λ (b : Bool). is_in (map (λ (y : PlanTest). y.number) (cond b (x ∷ filter p xs) (filter p xs))) t.number) kept
                ∙ ap (λ (b : Bool). b || is_in rest t.number) here ∙ sym kept ∙ ap p this
            | inr gone ↦
                ap (λ (b : Bool). is_in (map (λ (y : PlanTest). y.number) (cond b (x ∷ filter p xs) (filter p xs))) t.number) gone
                ∙ none ∙ sym gone ∙ ap p this
          ]
      | inr other ↦
          let later = listed p (x.number + 1) xs t ascends.1 (sym (ap (λ (b : Bool). cond b (Some x) (test_at xs t.number)) other) ∙ found) in
          elim (cases_Bool (p x)) [
            | inl kept ↦
                ap (λ (b : Bool). is_in (map (λ (y : PlanTest). y.number) (cond b (x ∷ filter p xs) (filter p xs))) t.number) kept
                ∙ ap (λ (b : Bool). b || is_in rest t.number) other ∙ later
            | inr gone ↦ ap (λ (b : Bool). is_in (map (λ (y : PlanTest). y.number) (cond b (x ∷ filter p xs) (filter p xs))) t.number) gone ∙ later
          ]
    ]

-- a number that no test has is not among the numbers of the tests that pass
pub unlisted : (p : PlanTest → Bool) (ts : List PlanTest) (m : ℕ) → test_at ts m ≡ None → is_in (numbers_of p ts) m ≡ false
unlisted p [] m none = refl
unlisted p (x ∷ xs) m none = elim (cases_Bool (x.number == m)) [
  | inl here ↦
      let found : Some x ≡ None = sym (ap (λ (b : Bool). cond b (Some x) (test_at xs m)) here) ∙ none in
      absurd (cc)
  | inr other ↦
      let later = unlisted p xs m (sym (ap (λ (b : Bool). cond b (Some x) (test_at xs m)) other) ∙ none) in
      elim (cases_Bool (p x)) [
        | inl kept ↦
            ap (λ (b : Bool). is_in (map (λ (y : PlanTest). y.number) (cond b (x ∷ filter p xs) (filter p xs))) m) kept
            ∙ ap (λ (b : Bool). b || is_in (numbers_of p xs) m) other ∙ later
        | inr gone ↦ ap (λ (b : Bool). is_in (map (λ (y : PlanTest). y.number) (cond b (x ∷ filter p xs) (filter p xs))) m) gone ∙ later
      ]
]
