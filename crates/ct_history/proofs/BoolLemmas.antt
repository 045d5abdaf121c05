-- The parts of a conjunction of tests, a test that each element passes, and the test for equal numbers.
use Rattle.std.proofs.Common.{◌≡◌, ◌<◌, Bool, true, false, ℕ, refl, sym, ◌∙◌, arith, List, length, get_or, inl, inr}
use Rattle.std.specs.Prelude.{◌&&◌, ◌==◌}
use Rattle.std.specs.List.{list_all}
use Rattle.std.proofs.lemmas.Bool.{cases_Bool, eq-eqb}
use Rattle.std.proofs.lemmas.Bool.Decides.{nat_tests}
use Rattle.std.proofs.lemmas.List.Folds.{list_all_at}

pub and_left : (a b : Bool) → (a && b) ≡ true → a ≡ true
and_left true b both = refl
and_left false b both = both

pub and_right : (a b : Bool) → (a && b) ≡ true → b ≡ true
and_right true b both = both
and_right false b both = cc

-- where each element passes a test, the element at each place passes it
pub all_at : {A : Type 0} (p : A → Bool) (xs : List A) (at : ℕ) (d : A) → list_all p xs ≡ true → at < length xs → p (get_or xs at d) ≡ true
all_at p xs at d all within = elim (cases_Bool (p (get_or xs at d))) [
  | inl passes ↦ passes
  | inr fails ↦ let none = sym all ∙ list_all_at p xs at d within fails in (cc)
]

pub eq_same : (n : ℕ) → (n == n) ≡ true
eq_same n = eq-eqb n n refl

pub eq_less : (m n : ℕ) → m < n → (m == n) ≡ false
eq_less m n less = grind (arith, nat_tests)

pub eq_more : (m n : ℕ) → n < m → (m == n) ≡ false
eq_more m n more = grind (arith, nat_tests)

pub flipped : (m n : ℕ) → (m == n) ≡ false → (n == m) ≡ false
flipped m n other = grind (arith, nat_tests)

-- a number that equals one of two other numbers does not equal the other one
pub eq_one : (n m k : ℕ) → (m == n) ≡ false → (k == n) ≡ true → (k == m) ≡ false
eq_one n m k other is = grind (arith, nat_tests)
