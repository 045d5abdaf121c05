-- Lists of which a function keeps some elements and changes them: what tests, sums and look-ups give there.
use Rattle.std.proofs.Common.{◌≡◌, ◌∙◌, sym, ap, subst, Bool, true, false, ℕ, ◌+◌, ◌≤◌, List, [], ◌∷◌, refl, arith, inl, inr}
use Rattle.std.specs.Prelude.{Option, Some, None, option_map, option_and_then, ◌&&◌, ◌||◌, ◌==◌, cond, filter, filter_map, find, map, sum_by}
use Rattle.std.specs.List.{list_all, list_any, cons_option, last_or}
use Rattle.std.proofs.lemmas.Bool.{and_parts, cases_Bool}
use Rattle.std.proofs.lemmas.Bool.Decides.{nat_tests}
use Rattle.std.proofs.lemmas.List.Sums.{sum_by-cons}
use Rattle.ct_history.specs.Verdicts.{first_of_list, last_of_list}

-- the value is there, and passes the test
abbrev pub is_some_and : {A : Type 0} → (A → Bool) → Option A → Bool
is_some_and p None = false
is_some_and p (Some x) = p x

-- what a value counts for, if it is there
abbrev pub count_some : {A : Type 0} → (A → ℕ) → Option A → ℕ
count_some f None = 0
count_some f (Some x) = f x

any-cons : {A : Type 0} (p : A → Bool) (o : Option A) (xs : List A) → list_any p (cons_option o xs) ≡ (is_some_and p o || list_any p xs)
any-cons p None xs = refl
any-cons p (Some x) xs = refl

-- some kept element passes a test exactly where some element passes the one that stands for it
pub any-filter_map : {A B : Type 0} (f : A → Option B) (p : B → Bool) (q : A → Bool) → ((x : A) → is_some_and p (f x) ≡ q x) → (xs : List A) → list_any p (filter_map f xs) ≡ list_any q xs
any-filter_map f p q same [] = refl
any-filter_map f p q same (x ∷ xs) =
    any-cons p (f x) (filter_map f xs) ∙ ap (λ (b : Bool). b || list_any p (filter_map f xs)) (same x) ∙ ap (λ (b : Bool). q x || b) (any-filter_map f p q same xs)

-- where no element passes a weaker test, no kept element passes a test
pub any_less : {A B : Type 0} (f : A → Option B) (p : B → Bool) (q : A → Bool) → ((x : A) → is_some_and p (f x) ≡ true → q x ≡ true) → (xs : List A) → list_any q xs ≡ false → list_any p (filter_map f xs) ≡ false
any_less f p q less [] none = refl
any_less f p q less (x ∷ xs) none =
    any-cons p (f x) (filter_map f xs) ∙ both (is_some_and p (f x)) (q x) (list_any q xs) (list_any p (filter_map f xs)) (less x) (any_less f p q less xs) none
  where
    both : (a b c d : Bool) → (a ≡ true → b ≡ true) → (c ≡ false → d ≡ false) → (b || c) ≡ false → (a || d) ≡ false
    both a true c d here there is = cc
    both true false c d here there is = let both' : false ≡ true = here refl in (cc)
    both false false c d here there is = there is

sum-cons : {A : Type 0} (g : A → ℕ) (o : Option A) (xs : List A) → sum_by g (cons_option o xs) ≡ count_some g o + sum_by g xs
sum-cons g None xs = omega arith
sum-cons g (Some x) xs = sum_by-cons g x xs

-- kept elements that count for no more are in sum no more
pub sum_less : {A B : Type 0} (f : A → Option B) (g : B → ℕ) (h : A → ℕ) → ((x : A) → count_some g (f x) ≤ h x) → (xs : List A) → sum_by g (filter_map f xs) ≤ sum_by h xs
sum_less f g h less [] = omega arith
sum_less f g h less (x ∷ xs) =
    let more = sum_less f g h less xs in
    let sum : count_some g (f x) + sum_by g (filter_map f xs) ≤ h x + sum_by h xs = omega (arith, less x, more) in
    subst (λ (n : ℕ). n ≤ sum_by h (x ∷ xs)) (sym (sum-cons g (f x) (filter_map f xs)))
    (subst (λ (n : ℕ). count_some g (f x) + sum_by g (filter_map f xs) ≤ n) (sym (sum_by-cons h x xs)) sum)

pub filter_map-cons : {A B : Type 0} (g : A → Option B) (o : Option A) (xs : List A) → filter_map g (cons_option o xs) ≡ cons_option (option_and_then g o) (filter_map g xs)
filter_map-cons g None xs = refl
filter_map-cons g (Some x) xs = refl

-- to keep some, and some of these, is to keep by both functions together
pub filter_map-twice : {A B C : Type 0} (f : A → Option B) (g : B → Option C) (h : A → Option C) → ((x : A) → option_and_then g (f x) ≡ h x) → (xs : List A) → filter_map g (filter_map f xs) ≡ filter_map h xs
filter_map-twice f g h same [] = refl
filter_map-twice f g h same (x ∷ xs) =
    filter_map-cons g (f x) (filter_map f xs) ∙ ap (λ (o : Option _). cons_option o (filter_map g (filter_map f xs))) (same x) ∙ ap (λ (ys : List _). cons_option (h x) ys) (filter_map-twice f g h same xs)

-- the first kept element, changed
pub first-filter_map : {A B : Type 0} (k : B → B) (h : A → Option B) (xs : List A) → first_of_list (filter_map (λ x. option_map k (h x)) xs) ≡ option_map k (first_of_list (filter_map h xs))
first-filter_map k h [] = refl
first-filter_map {B = B} k h (x ∷ xs) = by_kept (h x) (first-filter_map k h xs)
  where
    by_kept : (o : Option B) → first_of_list (filter_map (λ y. option_map k (h y)) xs) ≡ option_map k (first_of_list (filter_map h xs)) → first_of_list (cons_option (option_map k o) (filter_map (λ y. option_map k (h y)) xs)) ≡ option_map k (first_of_list (cons_option o (filter_map h xs)))
    by_kept None later = later
    by_kept (Some y) later = refl

last_kept : {A B : Type 0} (k : B → B) (h : A → Option B) → ((x : A) → option_map k (h x) ≡ h x) → (found : Option B) → option_map k found ≡ found → (xs : List A) → option_map k (last_or found (filter_map h xs)) ≡ last_or found (filter_map h xs)
last_kept k h same found is [] = is
last_kept {B = B} k h same found is (x ∷ xs) = by_kept (h x) (same x) (λ more kept. last_kept k h same more kept xs)
  where
    by_kept : (o : Option B) → option_map k o ≡ o → ((more : Option B) → option_map k more ≡ more → option_map k (last_or more (filter_map h xs)) ≡ last_or more (filter_map h xs)) → option_map k (last_or found (cons_option o (filter_map h xs))) ≡ last_or found (cons_option o (filter_map h xs))
    by_kept None kept later = later found is
    by_kept (Some y) kept later = later (Some y) kept

-- a change that leaves each kept element leaves the last of them
pub last-filter_map : {A B : Type 0} (k : B → B) (h : A → Option B) → ((x : A) → option_map k (h x) ≡ h x) → (xs : List A) → option_map k (last_of_list (filter_map h xs)) ≡ last_of_list (filter_map h xs)
last-filter_map k h same xs = last_kept k h same None refl xs

-- what is found among those that pass a weaker test is what is found among all
pub find-filter : {A : Type 0} (p q : A → Bool) → ((x : A) → p x ≡ true → q x ≡ true) → (xs : List A) → find p (filter q xs) ≡ find p xs
find-filter p q weaker [] = refl
find-filter p q weaker (x ∷ xs) = by_kept (p x) (q x) refl (weaker x) (find-filter p q weaker xs)
  where
    by_kept : (a b : Bool) → a ≡ p x → (a ≡ true → b ≡ true) → find p (filter q xs) ≡ find p xs → find p (cond b (x ∷ filter q xs) (filter q xs)) ≡ cond a (Some x) (find p xs)
    by_kept true true is less later = ap (λ (c : Bool). cond c (Some x) (find p (filter q xs))) (sym is)
    by_kept true false is less later = let no : false ≡ true = less refl in (cc)
    by_kept false true is less later = ap (λ (c : Bool). cond c (Some x) (find p (filter q xs))) (sym is) ∙ later
    by_kept false false is less later = later

-- what is found among changed elements is what is found before, changed
pub find-map : {A B : Type 0} (f : A → B) (p : B → Bool) (q : A → Bool) → ((x : A) → p (f x) ≡ q x) → (xs : List A) → find p (map f xs) ≡ option_map f (find q xs)
find-map f p q same [] = refl
find-map f p q same (x ∷ xs) =
    ap (λ (b : Bool). cond b (Some (f x)) (find p (map f xs))) (same x) ∙ by_found (q x) (find-map f p q same xs)
  where
    by_found : (b : Bool) → find p (map f xs) ≡ option_map f (find q xs) → cond b (Some (f x)) (find p (map f xs)) ≡ option_map f (cond b (Some x) (find q xs))
    by_found true later = refl
    by_found false later = later

-- where each element passes a test, two tests that agree on such elements find the same
pub find_where : {A : Type 0} (r p q : A → Bool) → ((x : A) → r x ≡ true → p x ≡ q x) → (xs : List A) → list_all r xs ≡ true → find p xs ≡ find q xs
find_where r p q same [] all = refl
find_where r p q same (x ∷ xs) all =
    let both = and_parts (r x) (list_all r xs) all in
    ap (λ (b : Bool). cond b (Some x) (find p xs)) (same x both.0) ∙ ap (λ (o : Option _). cond (q x) (Some x) o) (find_where r p q same xs both.1)

-- where each element passes a test, two tests that agree on such elements are passed by all alike
pub all_where : {A : Type 0} (r p q : A → Bool) → ((x : A) → r x ≡ true → p x ≡ q x) → (xs : List A) → list_all r xs ≡ true → list_all p xs ≡ list_all q xs
all_where r p q same [] all = refl
all_where r p q same (x ∷ xs) all =
    let both = and_parts (r x) (list_all r xs) all in
    ap (λ (b : Bool). b && list_all p xs) (same x both.0) ∙ ap (λ (b : Bool). q x && b) (all_where r p q same xs both.1)

-- where some number is this one, it passes each test that all pass
pub among_all : (n : ℕ) (r : ℕ → Bool) (xs : List ℕ) → list_any (λ m. m == n) xs ≡ true → list_all r xs ≡ true → r n ≡ true
among_all n r [] any all = cc
among_all n r (x ∷ xs) any all = elim (cases_Bool (x == n)) [
  | inl here ↦
      let same : x ≡ n = grind (arith, nat_tests) in
      ap r (sym same) ∙ (and_parts (r x) (list_all r xs) all).0
  | inr other ↦ among_all n r xs (sym (ap (λ (b : Bool). b || list_any (λ m. m == n) xs) other) ∙ any) (and_parts (r x) (list_all r xs) all).1
]

-- what all elements pass, those that a filter keeps pass
pub all_kept : {A : Type 0} (p q : A → Bool) (xs : List A) → list_all q xs ≡ true → list_all q (filter p xs) ≡ true
all_kept p q [] all = refl
all_kept p q (x ∷ xs) all = by_kept (p x) (and_parts (q x) (list_all q xs) all).0 (all_kept p q xs (and_parts (q x) (list_all q xs) all).1)
  where
    by_kept : (b : Bool) → q x ≡ true → list_all q (filter p xs) ≡ true → list_all q (cond b (x ∷ filter p xs) (filter p xs)) ≡ true
    by_kept true here later = ap (λ (c : Bool). c && list_all q (filter p xs)) here ∙ later
    by_kept false here later = later
