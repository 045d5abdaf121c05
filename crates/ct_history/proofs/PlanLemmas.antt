-- Looking up the tests of a plan, whose numbers ascend.
use Rattle.std.proofs.Common.{◌≡◌, ◌∙◌, sym, ap, Bool, true, false, ℕ, zero, suc, ◌+◌, ◌≤◌, List, [], ◌∷◌, ◌++◌, arith, subst}
use Rattle.std.specs.Prelude.{Option, map, find, Contains, Some, None, ◌==◌, cond}
use Rattle.std.specs.Option.{option_or}
use Rattle.std.proofs.lemmas.Bool.{cases_Bool}
use Rattle.std.proofs.lemmas.Bool.Decides.{nat_tests}
use Rattle.std.proofs.lemmas.List.Folds.{find-append}
use Rattle.std.proofs.Common.{inl, inr}
use Rattle.ct_history.specs.declared.plan.PlanTest.{PlanTest}
use Rattle.ct_history.specs.Plan.{IsAscendingFrom, test_at}

-- the numbers of tests
abbrev pub numbers_of : List PlanTest → List ℕ
numbers_of tests = map (λ (t : PlanTest). t.number) tests

-- what is found passes the test
pub find_passes : {A : Type 0} (p : A → Bool) (xs : List A) (x : A) → find p xs ≡ Some x → p x ≡ true
find_passes p [] x is = cc
find_passes p (y ∷ ys) x is = elim (cases_Bool (p y)) [
  | inl passes ↦
      let here : Some y ≡ Some x = sym (ap (λ (b : Bool). cond b (Some y) (find p ys)) passes) ∙ is in
      let same : y ≡ x = cc in
      ap p (sym same) ∙ passes
  | inr fails ↦ find_passes p ys x (sym (ap (λ (b : Bool). cond b (Some y) (find p ys)) fails) ∙ is)
]

-- where none is found, one more that passes the test is found
pub find_new : {A : Type 0} (p : A → Bool) (xs : List A) (y : A) → find p xs ≡ None → p y ≡ true → find p (xs ++ y ∷ []) ≡ Some y
find_new {A = A} p xs y none passes =
    find-append p xs (y ∷ []) ∙ ap (λ (o : Option A). option_or o (find p (y ∷ []))) none ∙ ap (λ (b : Bool). cond b (Some y) None) passes

-- a found test's number is at least the least one
pub found_bound : (p : PlanTest → Bool) (least : ℕ) (ts : List PlanTest) (t : PlanTest) → IsAscendingFrom least (map (λ (x : PlanTest). x.number) ts) → find p ts ≡ Some t → least ≤ t.number
found_bound p least [] t ascends is = cc
found_bound p least (x ∷ xs) t ascends is = elim (cases_Bool (p x)) [
  | inl passes ↦
      let here : Some x ≡ Some t = sym (ap (λ (b : Bool). cond b (Some x) (find p xs)) passes) ∙ is in
      let same : x ≡ t = cc in
      subst (λ (y : PlanTest). least ≤ y.number) same ascends.0
  | inr fails ↦
      let later = found_bound p (x.number + 1) xs t ascends.1 (sym (ap (λ (b : Bool). cond b (Some x) (find p xs)) fails) ∙ is) in
      omega (arith, ascends.0, later)
]

-- a found test is the one with its number
pub found_at : (p : PlanTest → Bool) (least : ℕ) (ts : List PlanTest) (t : PlanTest) → IsAscendingFrom least (map (λ (x : PlanTest). x.number) ts) → find p ts ≡ Some t → test_at ts t.number ≡ Some t
found_at p least [] t ascends is = cc
found_at p least (x ∷ xs) t ascends is = elim (cases_Bool (p x)) [
  | inl passes ↦
      let here : Some x ≡ Some t = sym (ap (λ (b : Bool). cond b (Some x) (find p xs)) passes) ∙ is in
      let same : x ≡ t = cc in
      let itself : (x.number == x.number) ≡ true = grind (arith, nat_tests) in
      subst (λ (y : PlanTest). test_at (x ∷ xs) y.number ≡ Some y) same (ap (λ (b : Bool). cond b (Some x) (test_at xs x.number)) itself)
  | inr fails ↦
      let rest = sym (ap (λ (b : Bool). cond b (Some x) (find p xs)) fails) ∙ is in
      let later = found_bound p (x.number + 1) xs t ascends.1 rest in
      let other : (x.number == t.number) ≡ false = grind (arith, nat_tests) in
      ap (λ (b : Bool). cond b (Some x) (test_at xs t.number)) other ∙ found_at p (x.number + 1) xs t ascends.1 rest
]

contained_bound : (least : ℕ) (ts : List PlanTest) (t : PlanTest) → IsAscendingFrom least (map (λ (x : PlanTest). x.number) ts) → Contains ts t → least ≤ t.number
contained_bound least [] t ascends is = absurd (omega (arith, is.1))
contained_bound least (x ∷ xs) t ascends (zero, lt, same) = subst (λ (y : PlanTest). least ≤ y.number) same ascends.0
contained_bound least (x ∷ xs) t ascends (suc k, lt, same) = omega (arith, ascends.0, contained_bound (x.number + 1) xs t ascends.1 (k, omega (arith, lt), same))

-- a test of the plan is found by its number
pub contained_at : (least : ℕ) (ts : List PlanTest) (t : PlanTest) → IsAscendingFrom least (map (λ (x : PlanTest). x.number) ts) → Contains ts t → test_at ts t.number ≡ Some t
contained_at least [] t ascends is = absurd (omega (arith, is.1))
contained_at least (x ∷ xs) t ascends (zero, lt, same) =
    let here : x ≡ t = same in
    let itself : (x.number == x.number) ≡ true = grind (arith, nat_tests) in
    subst (λ (y : PlanTest). test_at (x ∷ xs) y.number ≡ Some y) here (ap (λ (b : Bool). cond b (Some x) (test_at xs x.number)) itself)
contained_at least (x ∷ xs) t ascends (suc k, lt, same) =
    let rest : Contains xs t = (k, omega (arith, lt), same) in
    let later = contained_bound (x.number + 1) xs t ascends.1 rest in
    let other : (x.number == t.number) ≡ false = grind (arith, nat_tests) in
    ap (λ (b : Bool). cond b (Some x) (test_at xs t.number)) other ∙ contained_at (x.number + 1) xs t ascends.1 rest
