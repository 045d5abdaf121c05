-- In which row a worker stands.
use Rattle.std.proofs.Common.{◌≡◌, ℕ, zero, suc, ◌≤◌, List, [], ◌∷◌, length, arith, Bool, true, false, cond, ap}
use Rattle.std.specs.Prelude.{count_by}
use Rattle.std.specs.List.Sorted.{IsPartitionPoint}
use Rattle.std.proofs.lemmas.List.Sums.{sum_by-cons}

abbrev counted : Bool → ℕ
counted b = cond b 1 0

-- as many items pass a test as stand in front of the place from which on none passes it
pub count-point : {A : Type 0} (p : A → Bool) (xs : List A) (n : ℕ) → n ≤ length xs → IsPartitionPoint (λ (x : A). p x ≡ true) (λ (x : A). p x ≡ false) xs n → count_by p xs ≡ n
count-point p [] n most parted = omega (arith, most)
count-point p (x ∷ xs) zero most parted =
    let here : p x ≡ false = parted.1 0 x (omega arith) (omega arith) in
    let rest = count-point p xs 0 (omega arith) (λ k d low high. absurd (omega (arith, high)), λ k d low high. parted.1 (suc k) d (omega arith) (omega (arith, high))) in
    omega (arith, sum_by-cons (λ y. cond (p y) 1 0) x xs, ap counted here, rest)
count-point p (x ∷ xs) (suc n) most parted =
    let here : p x ≡ true = parted.0 0 x (omega arith) (omega arith) in
    let rest = count-point p xs n (omega (arith, most)) (λ k d low high. parted.0 (suc k) d (omega arith) (omega (arith, high)), λ k d low high. parted.1 (suc k) d (omega (arith, low)) (omega (arith, high))) in
    omega (arith, sum_by-cons (λ y. cond (p y) 1 0) x xs, ap counted here, rest)
