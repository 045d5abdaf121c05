-- Lists of numbers of tests: what is in them, and that two ascending lists with the same numbers are equal.
use Rattle.std.proofs.Common.{ℕ, ◌≡◌, ◌<◌, Bool, true, false, ◌&&◌, List, [], ◌∷◌, length, take, get_or, filter, All, refl, sym, ap, ◌∙◌, subst, ⊎_elim, arith, eqb, ◌⊎◌}
use Rattle.std.specs.List.{list_all, AllByRecursion}
use Rattle.std.specs.List.Sorted.{IsStrictlySortedBy, IsStrictlyIncreasing}
use Rattle.std.specs.Ordering.{nat_cmp}
use Rattle.std.specs.declared.cmp.Ordering.TheVariants.{Less}
use Rattle.std.proofs.lemmas.Bool.{false≢true, and_parts, and_from, or_left, or_right, or_cases, eq-eqb, eqb-true, false_from_ne_true}
use Rattle.std.proofs.lemmas.Bool.Decides.{nat_tests}
use Rattle.std.proofs.lemmas.List.Folds.{list_any_at, Any-from_list_any}
use Rattle.std.proofs.lemmas.List.{length-take-le, get_or-take, get_or_default}
use Rattle.std.proofs.lemmas.List.Kept.{AllPairs-from_increasing}
use Rattle.std.proofs.lemmas.Map.Views.{any-filter_same}
use Rattle.std.proofs.lemmas.Map.Keys.{sorted_from_strictly_increasing, sorted_head, sorted_tail}
use Rattle.ct_base.specs.Numbers.{is_in}
use Rattle.ct_base.proofs.TruthLemmas.{same_truth}

-- where all elements pass a test, all pass a weaker one
pub list_all-weaker : {X : Type 0} (p q : X → Bool) → ((x : X) → p x ≡ true → q x ≡ true) → (xs : List X) → list_all p xs ≡ true → list_all q xs ≡ true
list_all-weaker p q more [] all = refl
list_all-weaker p q more (x ∷ xs) all =
    let both = and_parts (p x) (list_all p xs) all in
    and_from (q x) (list_all q xs) (more x both.0) (list_all-weaker p q more xs both.1)

-- what stands at a place of a list is in it
pub is_in-get_or : (numbers : List ℕ) (at d : ℕ) → at < length numbers → is_in numbers (get_or numbers at d) ≡ true
is_in-get_or numbers at d within =
    list_any_at (λ n. eqb n (get_or numbers at d)) numbers at d within (eq-eqb (get_or numbers at d) (get_or numbers at d) refl)

-- a filter keeps the numbers that pass
pub is_in-filter : (p : ℕ → Bool) (numbers : List ℕ) (n : ℕ) → is_in (filter p numbers) n ≡ (p n && is_in numbers n)
is_in-filter p numbers n = any-filter_same (λ m. eqb m n) p (p n) (λ m same. ap p (eqb-true m n same)) numbers

less_from_cmp : (x y : ℕ) → nat_cmp x y ≡ Less → x < y
less_from_cmp x y less = grind (arith, nat_tests)

-- each number behind the first of an ascending list is above it
above_all : (x : ℕ) (xs : List ℕ) → AllByRecursion (λ y. nat_cmp x y ≡ Less) xs → (n : ℕ) → is_in xs n ≡ true → x < n
above_all x [] all n is = absurd (false≢true is)
above_all x (y ∷ ys) all n is =
    ⊎_elim
    (λ same. let e : y ≡ n = eqb-true y n same in let less : x < y = less_from_cmp x y all.0 in omega arith)
    (λ rest. above_all x ys all.1 n rest)
    (or_cases (eqb y n) (is_in ys n) is)

pub has_first : (x : ℕ) (xs : List ℕ) → is_in (x ∷ xs) x ≡ true
has_first x xs = or_left (eqb x x) (is_in xs x) (eq-eqb x x refl)

-- two ascending lists with the same numbers have the same first number
same_first : (x : ℕ) (xs : List ℕ) (y : ℕ) (ys : List ℕ) → IsStrictlySortedBy nat_cmp (x ∷ xs) → IsStrictlySortedBy nat_cmp (y ∷ ys) → ((n : ℕ) → is_in (x ∷ xs) n ≡ is_in (y ∷ ys) n) → x ≡ y
same_first x xs y ys up ups same =
    let x_there = or_cases (eqb y x) (is_in ys x) (sym (same x) ∙ has_first x xs) in
    let y_there = or_cases (eqb x y) (is_in xs y) (same y ∙ has_first y ys) in
    ⊎_elim
    (λ is. sym (eqb-true y x is))
    (λ above. ⊎_elim
    (λ is. eqb-true x y is)
    (λ other. let less : y < x = above_all y ys (sorted_head nat_cmp y ys ups) x above in
    let more : x < y = above_all x xs (sorted_head nat_cmp x xs up) y other in
    absurd (omega arith))
    y_there)
    x_there

other_than : (x n : ℕ) (b : Bool) → x < n → (eqb x n ≡ true) ⊎ (b ≡ true) → b ≡ true
other_than x n b less either = ⊎_elim (λ same. absurd (let e : x ≡ n = eqb-true x n same in omega arith)) (λ is. is) either

-- behind the same first number, two ascending lists have the same numbers
same_rest : (x : ℕ) (xs ys : List ℕ) → IsStrictlySortedBy nat_cmp (x ∷ xs) → IsStrictlySortedBy nat_cmp (x ∷ ys) → ((n : ℕ) → is_in (x ∷ xs) n ≡ is_in (x ∷ ys) n) → (n : ℕ) → is_in xs n ≡ is_in ys n
same_rest x xs ys up ups same n =
    same_truth (is_in xs n) (is_in ys n)
    (λ is. other_than x n (is_in ys n) (above_all x xs (sorted_head nat_cmp x xs up) n is) (or_cases (eqb x n) (is_in ys n) (sym (same n) ∙ or_right (eqb x n) (is_in xs n) is)))
    (λ is. other_than x n (is_in xs n) (above_all x ys (sorted_head nat_cmp x ys ups) n is) (or_cases (eqb x n) (is_in xs n) (same n ∙ or_right (eqb x n) (is_in ys n) is)))

same_sorted : (xs ys : List ℕ) → IsStrictlySortedBy nat_cmp xs → IsStrictlySortedBy nat_cmp ys → ((n : ℕ) → is_in xs n ≡ is_in ys n) → xs ≡ ys
same_sorted [] [] up ups same = refl
same_sorted [] (y ∷ ys) up ups same = absurd (false≢true (same y ∙ has_first y ys))
same_sorted (x ∷ xs) [] up ups same = absurd (false≢true (sym (same x) ∙ has_first x xs))
same_sorted (x ∷ xs) (y ∷ ys) up ups same =
    let e : x ≡ y = same_first x xs y ys up ups same in
    let ups_x : IsStrictlySortedBy nat_cmp (x ∷ ys) = subst (λ f. IsStrictlySortedBy nat_cmp (f ∷ ys)) (sym e) ups in
    let same_x : (n : ℕ) → is_in (x ∷ xs) n ≡ is_in (x ∷ ys) n = subst (λ f. (n : ℕ) → is_in (x ∷ xs) n ≡ is_in (f ∷ ys) n) (sym e) same in
    ap (λ rest. x ∷ rest) (same_sorted xs ys (sorted_tail nat_cmp x xs up) (sorted_tail nat_cmp x ys ups_x) (same_rest x xs ys up ups_x same_x))
    ∙ ap (λ f. f ∷ ys) e

-- two ascending lists with the same numbers are equal
pub same_increasing : (xs ys : List ℕ) → IsStrictlyIncreasing xs → IsStrictlyIncreasing ys → ((n : ℕ) → is_in xs n ≡ is_in ys n) → xs ≡ ys
same_increasing xs ys up ups same = same_sorted xs ys (sorted_from_strictly_increasing xs up) (sorted_from_strictly_increasing ys ups) same

-- where each number of a list passes a test, all numbers do
pub list_all-from : (p : ℕ → Bool) (numbers : List ℕ) → ((n : ℕ) → is_in numbers n ≡ true → p n ≡ true) → list_all p numbers ≡ true
list_all-from p [] each = refl
list_all-from p (x ∷ xs) each =
    and_from (p x) (list_all p xs) (each x (has_first x xs)) (list_all-from p xs (λ n is. each n (or_right (eqb x n) (is_in xs n) is)))

-- a number of a list passes what all of them pass
pub list_all-at : (p : ℕ → Bool) (numbers : List ℕ) (n : ℕ) → list_all p numbers ≡ true → is_in numbers n ≡ true → p n ≡ true
list_all-at p [] n all is = absurd (false≢true is)
list_all-at p (x ∷ xs) n all is =
    let both = and_parts (p x) (list_all p xs) all in
    ⊎_elim
    (λ same. ap p (sym (eqb-true x n same)) ∙ both.0)
    (λ rest. list_all-at p xs n both.1 rest)
    (or_cases (eqb x n) (is_in xs n) is)

-- a number of a list that ascends does not stand in front of itself
pub not_in_front : (numbers : List ℕ) (at : ℕ) → IsStrictlyIncreasing numbers → at < length numbers → is_in (take at numbers) (get_or numbers at 0) ≡ false
not_in_front numbers at up within = false_from_ne_true (is_in (take at numbers) (get_or numbers at 0)) (λ is.
    let one = Any-from_list_any (λ m. eqb m (get_or numbers at 0)) (take at numbers) is in
    let cut : length (take at numbers) ≡ at = length-take-le at numbers (omega arith) in
    let place : one.0 < length (take at numbers) = one.2 in
    let front : one.0 < at = omega arith in
    let less : get_or numbers one.0 0 < get_or numbers at 0 = AllPairs-from_increasing numbers up one.0 at 0 front within in
    let same : one.1 ≡ get_or numbers at 0 = eqb-true one.1 (get_or numbers at 0) one.4 in
    let read : get_or numbers one.0 0 ≡ one.1 = sym (get_or-take at numbers one.0 0 front) ∙ get_or_default (take at numbers) one.0 0 one.1 place ∙ one.3 in
    omega arith)
