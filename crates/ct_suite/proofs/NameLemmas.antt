-- The distinct names of a list stand for the whole list: a test has one of them, or none.
use Rattle.std.proofs.Common.{◌≡◌, ℕ, ◌+◌, ◌<◌, min, Bool, true, false, cond, ◌||◌, bytes_eq, List, [], ◌∷◌, ◌++◌, length, take, get_or, fold, sum_by, count_by, refl, sym, ap, ◌∙◌, arith}
use Rattle.std.proofs.Math.Bool.{or_assoc, or-false}
use Rattle.std.proofs.lemmas.Bool.{false≢true, or_parts}
use Rattle.std.proofs.lemmas.List.Folds.{list_any-append}
use Rattle.std.proofs.lemmas.List.Sums.{fold_more, sum_by-cons, sum_by_more}
use Rattle.std.proofs.lemmas.Slice.Eq.{bytes_eq-Decides}
use Rattle.ct_base.specs.declared.defs.TestDef.{TestDef}
use Rattle.ct_base.specs.Names.{is_among, with_new_name}
use Rattle.ct_base.proofs.NameLemmas.{bytes_eq_comm}
use Rattle.ct_suite.specs.Tests.{each_where, has_name_of}
use Rattle.ct_suite.specs.Entries.{of_name, name_count}

-- no name stands twice
abbrev pub Distinct : List (List ℕ) → Type 0
Distinct [] = Unit {0}
Distinct (name ∷ names) = (is_among name names ≡ false) × Distinct names

or-true : (a b : Bool) → a || b ≡ true → (a ≡ true → ⊥) → b ≡ true
or-true true b is not_a = absurd (not_a refl)
or-true false b is not_a = is

among-same : (names : List (List ℕ)) (one other : List ℕ) → bytes_eq one other ≡ true → is_among one names ≡ is_among other names
among-same names one other e = ap (λ name. is_among name names) ((bytes_eq-Decides one other).0 e)

-- one more name, which may be among the others already
among-with_new_name : (names : List (List ℕ)) (name asked : List ℕ) → is_among asked (with_new_name names name) ≡ (is_among asked names || bytes_eq asked name)
among-with_new_name names name asked = by (is_among name names) refl
  where
    found : (here known : Bool) → (here ≡ true → known ≡ true) → known ≡ (known || here)
    found true true f = refl
    found false true f = refl
    found true false f = f refl
    found false false f = refl

    by : (is : Bool) → is_among name names ≡ is → is_among asked (cond is names (names ++ name ∷ [])) ≡ (is_among asked names || bytes_eq asked name)
    by true is = found (bytes_eq asked name) (is_among asked names) (λ e. among-same names asked name e ∙ is)
    by false is = list_any-append (bytes_eq asked) names (name ∷ []) ∙ ap (λ rest. is_among asked names || rest) (or-false (bytes_eq asked name))

among-fold : (known names : List (List ℕ)) (asked : List ℕ) → is_among asked (fold with_new_name known names) ≡ (is_among asked known || is_among asked names)
among-fold known [] asked = or-false (is_among asked known)
  where
    or-false : (a : Bool) → a ≡ (a || false)
    or-false true = refl
    or-false false = refl
among-fold known (name ∷ names) asked =
    among-fold (with_new_name known name) names asked
    ∙ ap (λ a. a || is_among asked names) (among-with_new_name known name asked)
    ∙ or_assoc (is_among asked known) (bytes_eq asked name) (is_among asked names)

-- the distinct names of a list are the names of the list
pub among-distinct : (names : List (List ℕ)) (asked : List ℕ) → is_among asked (fold with_new_name [] names) ≡ is_among asked names
among-distinct names asked = among-fold [] names asked

Distinct-push : (names : List (List ℕ)) (name : List ℕ) → Distinct names → is_among name names ≡ false → Distinct (names ++ name ∷ [])
Distinct-push [] name distinct absent = (refl, tt)
Distinct-push (first ∷ names) name distinct absent =
    let parts = or_parts (bytes_eq name first) (is_among name names) absent in (
      list_any-append (bytes_eq first) names (name ∷ []) ∙ none (is_among first names) (bytes_eq first name) distinct.0 (bytes_eq_comm first name ∙ parts.0),
      Distinct-push names name distinct.1 parts.1,
    )
  where
    none : (a b : Bool) → a ≡ false → b ≡ false → (a || (b || false)) ≡ false
    none true b e f = e
    none false true e f = f
    none false false e f = refl

Distinct-with_new_name : (names : List (List ℕ)) (name : List ℕ) → Distinct names → Distinct (with_new_name names name)
Distinct-with_new_name names name distinct = by (is_among name names) refl
  where
    by : (is : Bool) → is_among name names ≡ is → Distinct (cond is names (names ++ name ∷ []))
    by true is = distinct
    by false is = Distinct-push names name distinct is

pub Distinct-fold : (known names : List (List ℕ)) → Distinct known → Distinct (fold with_new_name known names)
Distinct-fold known [] distinct = distinct
Distinct-fold known (name ∷ names) distinct = Distinct-fold (with_new_name known name) names (Distinct-with_new_name known name distinct)

-- the tests are changed for one name after the other
module _ (change : TestDef → TestDef) (kept : (test : TestDef) → (change test).name ≡ test.name) where
  once : (names : List (List ℕ)) (name : List ℕ) (test : TestDef) → is_among name names ≡ false → (is : Bool) → bytes_eq name test.name ≡ is → cond (is_among (cond is (change test) test).name names) (change (cond is (change test) test)) (cond is (change test) test) ≡ cond (bytes_eq test.name name || is_among test.name names) (change test) test
  once names name test absent true is =
      ap (λ b. cond b (change (change test)) (change test)) (ap (λ n. is_among n names) (kept test ∙ sym ((bytes_eq-Decides name test.name).0 is)) ∙ absent)
      ∙ ap (λ b. cond (b || is_among test.name names) (change test) test) (sym (bytes_eq_comm test.name name ∙ is))
  once names name test absent false is =
      ap (λ b. cond (b || is_among test.name names) (change test) test) (sym (bytes_eq_comm test.name name ∙ is))

  then-others : (names : List (List ℕ)) (name : List ℕ) (tests : List TestDef) → is_among name names ≡ false → each_where (has_name_of names) change (of_name change tests name) ≡ each_where (has_name_of (name ∷ names)) change tests
  then-others names name [] absent = refl
  then-others names name (test ∷ tests) absent =
      λ i. once names name test absent (bytes_eq name test.name) refl i ∷ then-others names name tests absent i

  pub each-of_names : (names : List (List ℕ)) (tests : List TestDef) → Distinct names → fold (of_name change) tests names ≡ each_where (has_name_of names) change tests
  each-of_names [] tests distinct = sym (none tests)
    where
      none : (tests : List TestDef) → each_where (has_name_of []) change tests ≡ tests
      none [] = refl
      none (test ∷ tests) = ap (λ rest. test ∷ rest) (none tests)
  each-of_names (name ∷ names) tests distinct =
      each-of_names names (of_name change tests name) distinct.1 ∙ then-others names name tests distinct.0

each-same : (one other : List (List ℕ)) (change : TestDef → TestDef) → ((asked : List ℕ) → is_among asked one ≡ is_among asked other) → (tests : List TestDef) → each_where (has_name_of one) change tests ≡ each_where (has_name_of other) change tests
each-same one other change same [] = refl
each-same one other change same (test ∷ tests) =
    λ i. cond (same test.name i) (change test) test ∷ each-same one other change same tests i

-- changing the tests for each distinct name in turn changes each test that has one of the names
pub each-distinct : (change : TestDef → TestDef) → ((test : TestDef) → (change test).name ≡ test.name) → (names : List (List ℕ)) (tests : List TestDef) → fold (of_name change) tests (fold with_new_name [] names) ≡ each_where (has_name_of names) change tests
each-distinct change kept names tests =
    each-of_names change kept (fold with_new_name [] names) tests (Distinct-fold [] names tt)
    ∙ each-same (fold with_new_name [] names) names change (among-distinct names) tests

count-none : (tests : List TestDef) → count_by (has_name_of []) tests ≡ 0
count-none [] = refl
count-none (test ∷ tests) =
    omega (arith, sum_by-cons (λ (t : TestDef). cond (has_name_of [] t) 1 0) test tests, count-none tests)

count-once : (names : List (List ℕ)) (name : List ℕ) (tests : List TestDef) → is_among name names ≡ false → name_count tests name + count_by (has_name_of names) tests ≡ count_by (has_name_of (name ∷ names)) tests
count-once names name [] absent = refl
count-once names name (test ∷ tests) absent =
    let rest = count-once names name tests absent in
    let here = apart (bytes_eq name test.name) refl in
    omega (arith, here, rest, sum_by-cons (λ t. cond (bytes_eq name t.name) 1 0) test tests, sum_by-cons (λ t. cond (has_name_of names t) 1 0) test tests, sum_by-cons (λ t. cond (has_name_of (name ∷ names) t) 1 0) test tests)
  where
    one : (b : Bool) → b ≡ false → 1 + cond b 1 0 ≡ 1
    one true e = absurd (false≢true (sym e))
    one false e = refl

    either : Bool → ℕ
    either is = cond (is || is_among test.name names) 1 0

    same : (is : Bool) → bytes_eq name test.name ≡ is → either is ≡ either (bytes_eq test.name name)
    same is e = ap either (sym (bytes_eq_comm test.name name ∙ e))

    apart : (is : Bool) → bytes_eq name test.name ≡ is → cond is 1 0 + cond (is_among test.name names) 1 0 ≡ cond (bytes_eq test.name name || is_among test.name names) 1 0
    apart true is =
        one (is_among test.name names) (ap (λ n. is_among n names) (sym ((bytes_eq-Decides name test.name).0 is)) ∙ absent) ∙ same true is
    apart false is = omega (arith, same false is)

pub count-of_names : (names : List (List ℕ)) (tests : List TestDef) → Distinct names → sum_by (name_count tests) names ≡ count_by (has_name_of names) tests
count-of_names [] tests distinct = sym (count-none tests)
count-of_names (name ∷ names) tests distinct =
    sum_by-cons (name_count tests) name names ∙ ap (λ n. name_count tests name + n) (count-of_names names tests distinct.1) ∙ count-once names name tests distinct.0

count-same : (one other : List (List ℕ)) → ((asked : List ℕ) → is_among asked one ≡ is_among asked other) → (tests : List TestDef) → count_by (has_name_of one) tests ≡ count_by (has_name_of other) tests
count-same one other same [] = refl
count-same one other same (test ∷ tests) =
    sum_by-cons (λ t. cond (has_name_of one t) 1 0) test tests
    ∙ (λ i. cond (same test.name i) 1 0 + count-same one other same tests i)
    ∙ sym (sum_by-cons (λ t. cond (has_name_of other t) 1 0) test tests)

-- the tests that have one of the names, counted name by name
pub count-distinct : (names : List (List ℕ)) (tests : List TestDef) → sum_by (name_count tests) (fold with_new_name [] names) ≡ count_by (has_name_of names) tests
count-distinct names tests =
    count-of_names (fold with_new_name [] names) tests (Distinct-fold [] names tt)
    ∙ count-same (fold with_new_name [] names) names (among-distinct names) tests

-- one more number is added, up to the greatest number
pub capped-more : {X : Type 0} (f : X → ℕ) (xs : List X) (i : ℕ) (x : X) (count now more most : ℕ) → i < length xs → x ≡ get_or xs i x → more ≡ f x → count ≡ min (sum_by f (take i xs)) most → now ≡ min (count + more) most → now ≡ min (sum_by f (take (i + 1) xs)) most
capped-more f xs i x count now more most within is more_is counted added =
    let whole : sum_by f (take (i + 1) xs) ≡ sum_by f (take i xs) + f x =
    sum_by_more f xs i x within ∙ ap (λ y. sum_by f (take i xs) + f y) (sym is) in
    omega arith

-- one more item is folded in
pub fold-next : {A B : Type 0} (f : B → A → B) (start : B) (xs : List A) (i : ℕ) (x : A) (now next : B) → i < length xs → x ≡ get_or xs i x → now ≡ fold f start (take i xs) → next ≡ f now x → next ≡ fold f start (take (i + 1) xs)
fold-next f start xs i x now next within is so_far made =
    made ∙ (λ j. f (so_far j) (is j)) ∙ sym (fold_more f start xs i x within)
