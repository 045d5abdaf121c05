-- Numbers in lists and rows: which a filter keeps, and how many pass a test.
use Rattle.std.proofs.Common.{◌≡◌, ℕ, zero, suc, ◌+◌, ◌<◌, ◌≤◌, Bool, true, false, cond, eqb, ◌||◌, List, [], ◌∷◌, length, filter, count_by, ◌⊎◌, inl, inr, refl, sym, ap, ◌∙◌, arith}
use Rattle.std.specs.List.{list_any, range_with_len, flat_map}
use Rattle.std.proofs.lemmas.Bool.{false≢true, eqb-true, eq-eqb, or_cases, or_left, or_right, cases_eq}
use Rattle.std.proofs.lemmas.List.Folds.{list_any-append}
use Rattle.std.proofs.lemmas.List.Sums.{sum_by-cons}
use Rattle.ct_base.specs.Numbers.{is_in}

-- where a number of the list passes, some number does
pub any_at : (test : ℕ → Bool) (number : ℕ) (numbers : List ℕ) → is_in numbers number ≡ true → test number ≡ true → list_any test numbers ≡ true
any_at test number [] there passes = absurd (false≢true there)
any_at test number (first ∷ numbers) there passes =
    elim (or_cases (eqb first number) (is_in numbers number) there) [
      | inl here ↦ or_left (test first) (list_any test numbers) (ap test (eqb-true first number here) ∙ passes)
      | inr later ↦ or_right (test first) (list_any test numbers) (any_at test number numbers later passes)
    ]

-- where some number passes, one is found that does
pub some_passes : (test : ℕ → Bool) (numbers : List ℕ) → list_any test numbers ≡ true → (number : ℕ) × (is_in numbers number ≡ true) × (test number ≡ true)
some_passes test [] passes = absurd (false≢true passes)
some_passes test (first ∷ numbers) passes =
    elim (or_cases (test first) (list_any test numbers) passes) [
      | inl here ↦ (first, or_left (eqb first first) (is_in numbers first) (eq-eqb first first refl), here)
      | inr later ↦ let found = some_passes test numbers later in (found.0, or_right (eqb first found.0) (is_in numbers found.0) found.1, found.2)
    ]

-- some element of a flattened list passes, where some element of one of its lists does
pub any-flat_map : (test : List ℕ → Bool) (f : ℕ → List (List ℕ)) (numbers : List ℕ) → list_any test (flat_map f numbers) ≡ list_any (λ number. list_any test (f number)) numbers
any-flat_map test f [] = refl
any-flat_map test f (first ∷ numbers) = list_any-append test (f first) (flat_map f numbers) ∙ ap (λ later. list_any test (f first) || later) (any-flat_map test f numbers)

-- no number passes the test that is always false
pub never_any : (numbers : List ℕ) → false ≡ list_any (λ number. false) numbers
never_any [] = refl
never_any (first ∷ numbers) = never_any numbers

-- a number between the ends of a row is in the row
pub in_row : (number first count : ℕ) → first ≤ number → number < first + count → is_in (range_with_len first count) number ≡ true
in_row number first zero from below = absurd (omega (arith, from, below))
in_row number first (suc count) from below =
    elim (cases_eq number first) [
      | inl here ↦ or_left (eqb first number) (is_in (range_with_len (first + 1) count) number) (eq-eqb first number (sym here))
      | inr other ↦ or_right (eqb first number) (is_in (range_with_len (first + 1) count) number) (in_row number (first + 1) count (omega (arith, from, other)) (omega (arith, below)))
    ]

pub from_row : (number first count : ℕ) → is_in (range_with_len first count) number ≡ true → (first ≤ number) × (number < first + count)
from_row number first zero there = absurd (false≢true there)
from_row number first (suc count) there =
    elim (or_cases (eqb first number) (is_in (range_with_len (first + 1) count) number) there) [
      | inl here ↦ let same : number ≡ first = sym (eqb-true first number here) in (omega (arith, same), omega (arith, same))
      | inr later ↦ let row = from_row number (first + 1) count later in (omega (arith, row.0), omega (arith, row.1))
    ]

-- the number passes, and stands in the row
abbrev pub PassesInRow : (ℕ → Bool) → ℕ → ℕ → ℕ → Type 0
PassesInRow test number first count = (test number ≡ true) × (first ≤ number) × (number < first + count)

kept_by : (test : ℕ → Bool) (number first count : ℕ) (numbers : List ℕ) → (is_in numbers number ≡ true → PassesInRow test number (first + 1) count) → (passes : Bool) → test first ≡ passes → is_in (cond passes (first ∷ numbers) numbers) number ≡ true → PassesInRow test number first (suc count)
kept_by test number first count numbers later true passes there =
    elim (or_cases (eqb first number) (is_in numbers number) there) [
      | inl here ↦ let same : number ≡ first = sym (eqb-true first number here) in (ap test same ∙ passes, omega (arith, same), omega (arith, same))
      | inr behind ↦ let kept = later behind in (kept.0, omega (arith, kept.1), omega (arith, kept.2))
    ]
kept_by test number first count numbers later false passes there = let kept = later there in (kept.0, omega (arith, kept.1), omega (arith, kept.2))

-- a number that a filter of a row keeps passes, and stands in the row
pub kept_passes : (test : ℕ → Bool) (number first count : ℕ) → is_in (filter test (range_with_len first count)) number ≡ true → PassesInRow test number first count
kept_passes test number first zero there = absurd (false≢true there)
kept_passes test number first (suc count) there = kept_by test number first count (filter test (range_with_len (first + 1) count)) (kept_passes test number (first + 1) count) (test first) refl there

passes_by : (test : ℕ → Bool) (number first : ℕ) (numbers : List ℕ) → ((number ≡ first → ⊥) → is_in numbers number ≡ true) → (passes : Bool) → test first ≡ passes → test number ≡ true → is_in (cond passes (first ∷ numbers) numbers) number ≡ true
passes_by test number first numbers later true passes here =
    elim (cases_eq number first) [
      | inl same ↦ or_left (eqb first number) (is_in numbers number) (eq-eqb first number (sym same))
      | inr other ↦ or_right (eqb first number) (is_in numbers number) (later other)
    ]
passes_by test number first numbers later false passes here = later (λ same. false≢true (sym passes ∙ ap test (sym same) ∙ here))

-- a number of the row that passes is kept
pub passes_kept : (test : ℕ → Bool) (number first count : ℕ) → PassesInRow test number first count → is_in (filter test (range_with_len first count)) number ≡ true
passes_kept test number first zero is = absurd (omega (arith, is.1, is.2))
passes_kept test number first (suc count) is =
    passes_by test number first (filter test (range_with_len (first + 1) count)) (λ other. passes_kept test number (first + 1) count (is.0, omega (arith, is.1, other), omega (arith, is.2))) (test first) refl is.0

-- tests that agree in a row keep the same numbers of it
pub same_kept : (test other : ℕ → Bool) (first count : ℕ) → ((number : ℕ) → first ≤ number → number < first + count → test number ≡ other number) → filter test (range_with_len first count) ≡ filter other (range_with_len first count)
same_kept test other first zero same = refl
same_kept test other first (suc count) same =
    ap (λ passes. cond passes (first ∷ filter test (range_with_len (first + 1) count)) (filter test (range_with_len (first + 1) count))) (same first (omega arith) (omega arith))
    ∙ ap (λ numbers. cond (other first) (first ∷ numbers) numbers) (same_kept test other (first + 1) count (λ number from below. same number (omega (arith, from)) (omega (arith, below))))

-- a count with one more number in front
counted : (test : ℕ → Bool) (first : ℕ) (numbers : List ℕ) → count_by test (first ∷ numbers) ≡ cond (test first) 1 0 + count_by test numbers
counted test first numbers = sum_by-cons (λ number. cond (test number) 1 0) first numbers

-- what follows where each number that passes one test passes another: more pass the other, or the same
pub record Grows (test other : ℕ → Bool) (numbers : List ℕ) : Type 0 where
  pub count : count_by test numbers ≤ count_by other numbers
  pub more : (count_by test numbers < count_by other numbers) ⊎ ((number : ℕ) → is_in numbers number ≡ true → other number ≡ true → test number ≡ true)

grows_by : (test other : ℕ → Bool) (first : ℕ) (numbers : List ℕ) → Grows test other numbers → (passes passes_other : Bool) → test first ≡ passes → other first ≡ passes_other → (passes ≡ true → passes_other ≡ true) → Grows test other (first ∷ numbers)
grows_by test other first numbers later true true is is_other within =
    let one : count_by test (first ∷ numbers) ≡ 1 + count_by test numbers = counted test first numbers ∙ ap (λ p. cond p 1 0 + count_by test numbers) is in
    let two : count_by other (first ∷ numbers) ≡ 1 + count_by other numbers = counted other first numbers ∙ ap (λ p. cond p 1 0 + count_by other numbers) is_other in
    record {
      count = omega (arith, one, two, later.count);
      more =
          elim later.more [
            | inl fewer ↦ inl (omega (arith, one, two, fewer))
            | inr same ↦ inr (λ number there passes. elim (or_cases (eqb first number) (is_in numbers number) there) [
              | inl here ↦ ap test (sym (eqb-true first number here)) ∙ is
              | inr behind ↦ same number behind passes
            ])
          ];
    }
grows_by test other first numbers later true false is is_other within = absurd (false≢true (within refl))
grows_by test other first numbers later false true is is_other within =
    let one : count_by test (first ∷ numbers) ≡ 0 + count_by test numbers = counted test first numbers ∙ ap (λ p. cond p 1 0 + count_by test numbers) is in
    let two : count_by other (first ∷ numbers) ≡ 1 + count_by other numbers = counted other first numbers ∙ ap (λ p. cond p 1 0 + count_by other numbers) is_other in
    record { count = omega (arith, one, two, later.count); more = inl (omega (arith, one, two, later.count)) }
grows_by test other first numbers later false false is is_other within =
    let one : count_by test (first ∷ numbers) ≡ 0 + count_by test numbers = counted test first numbers ∙ ap (λ p. cond p 1 0 + count_by test numbers) is in
    let two : count_by other (first ∷ numbers) ≡ 0 + count_by other numbers = counted other first numbers ∙ ap (λ p. cond p 1 0 + count_by other numbers) is_other in
    record {
      count = omega (arith, one, two, later.count);
      more =
          elim later.more [
            | inl fewer ↦ inl (omega (arith, one, two, fewer))
            | inr same ↦ inr (λ number there passes. elim (or_cases (eqb first number) (is_in numbers number) there) [
              | inl here ↦ absurd (false≢true (sym is_other ∙ ap other (eqb-true first number here) ∙ passes))
              | inr behind ↦ same number behind passes
            ])
          ];
    }

pub grows : (test other : ℕ → Bool) (numbers : List ℕ) → ((number : ℕ) → is_in numbers number ≡ true → test number ≡ true → other number ≡ true) → Grows test other numbers
grows test other [] within = record { count = omega arith; more = inr (λ number there passes. absurd (false≢true there)) }
grows test other (first ∷ numbers) within =
    grows_by test other first numbers (grows test other numbers (λ number there. within number (or_right (eqb first number) (is_in numbers number) there))) (test first) (other first) refl refl (within first (or_left (eqb first first) (is_in numbers first) (eq-eqb first first refl)))

count_all : (numbers : List ℕ) → count_by (λ number. true) numbers ≡ length numbers
count_all [] = refl
count_all (first ∷ numbers) = counted (λ number. true) first numbers ∙ omega (arith, count_all numbers)

-- where as many pass as there are, all pass
pub all_pass : (test : ℕ → Bool) (numbers : List ℕ) → length numbers ≤ count_by test numbers → (number : ℕ) → is_in numbers number ≡ true → test number ≡ true
all_pass test numbers many number there =
    elim ((grows test (λ number. true) numbers (λ number there passes. refl)).more) [
      | inl fewer ↦ absurd (omega (arith, fewer, many, count_all numbers))
      | inr same ↦ same number there refl
    ]
