-- Truth values that are equal.
use Rattle.std.proofs.Common.{◌≡◌, ◌||◌, Bool, true, false, cond, refl, sym}

-- two truth values that follow from each other are equal
pub same_truth : (b c : Bool) → (b ≡ true → c ≡ true) → (c ≡ true → b ≡ true) → b ≡ c
same_truth true c to from = sym (to refl)
same_truth false true to from = from refl
same_truth false false to from = refl

-- true where it is so, and else what it was
pub true_where : (is was : Bool) → cond is true was ≡ (was || is)
true_where true true = refl
true_where true false = refl
true_where false true = refl
true_where false false = refl
