-- The followers of each test, listed one predecessor of one test after the other.
use Rattle.std.proofs.Common.{◌≡◌, ◌∙◌, sym, ap, subst, Bool, true, false, ℕ, zero, suc, ◌+◌, ◌<◌, ◌≤◌, List, [], ◌∷◌, ◌++◌, length, get_or, set, take, map, arith, refl, inl, inr}
use Rattle.std.specs.Prelude.{Some, None, filter, not, ◌&&◌, ◌||◌, ◌==◌, cond}
use Rattle.std.specs.List.{list_any}
use Rattle.std.proofs.lemmas.Bool.{cases_Bool, false_from_ne_true, eqb-true, eq-eqb, false≢true}
use Rattle.ct_base.specs.Numbers.{is_in}
use Rattle.ct_history.proofs.BoolLemmas.{eq_less, eq_more}
use Rattle.std.proofs.lemmas.List.{append-nil, append_assoc, get_or-map, map-append, take_more}
use Rattle.std.proofs.lemmas.List.Elements.{filter-append}
use Rattle.std.proofs.lemmas.List.Folds.{list_any_more}
use Rattle.std.proofs.lemmas.Option.{slice_get-get_or}
use Rattle.ct_history.specs.declared.plan.PlanTest.{PlanTest}
use Rattle.ct_history.specs.Plan.{AllAscend, IsAscendingFrom, IsPlaceOf, test_at}
use Rattle.ct_history.proofs.PlanLemmas.{find_passes, numbers_of}
use Rattle.ct_core.specs.Followers.{follows, followers_among, followers_of}

-- the number of the test at a place
abbrev pub number_at : List PlanTest → ℕ → ℕ
number_at tests place = get_or (numbers_of tests) place 0

-- a list of this number if true, else the empty list
abbrev pub one_if : Bool → ℕ → List ℕ
one_if true number = number ∷ []
one_if false number = []

one_mapped : (p : PlanTest → Bool) (t : PlanTest) → map (λ (x : PlanTest). x.number) (filter p (t ∷ [])) ≡ one_if (p t) t.number
one_mapped p t = by_passed (p t)
  where
    by_passed : (b : Bool) → map (λ (x : PlanTest). x.number) (cond b (t ∷ []) []) ≡ one_if b t.number
    by_passed true = refl
    by_passed false = refl

-- the followers among one more test are the followers so far, and the new test if it follows
pub followers-more : (tests : List PlanTest) (at : ℕ) (t : PlanTest) (number : ℕ) → at < length tests → t ≡ get_or tests at t → followers_of (take (at + 1) tests) number ≡ followers_of (take at tests) number ++ one_if (follows number t) t.number
followers-more tests at t number lt is =
    ap (λ (ts : List PlanTest). followers_of ts number) (take_more tests at t lt ∙ ap (λ (x : PlanTest). take at tests ++ x ∷ []) (sym is))
    ∙ ap (λ (ts : List PlanTest). map (λ (x : PlanTest). x.number) ts) (filter-append (follows number) (take at tests) (t ∷ []))
    ∙ map-append (λ (x : PlanTest). x.number) (filter (follows number) (take at tests)) (filter (follows number) (t ∷ []))
    ∙ ap (λ (ns : List ℕ). followers_of (take at tests) number ++ ns) (one_mapped (follows number) t)

-- two functions list the same for all tests if they agree on each test's number
pub map-agrees : (f g : ℕ → List ℕ) (tests : List PlanTest) → ((k : ℕ) → k < length tests → f (number_at tests k) ≡ g (number_at tests k)) → map (λ (t : PlanTest). f t.number) tests ≡ map (λ (t : PlanTest). g t.number) tests
map-agrees f g [] same = refl
map-agrees f g (t ∷ tests) same =
    ap (λ (ns : List ℕ). ns ∷ map (λ (x : PlanTest). f x.number) tests) (same 0 (omega arith))
    ∙ ap (λ (rest : List (List ℕ)). g t.number ∷ rest) (map-agrees f g tests (λ k lt. same (suc k) (omega (arith, lt))))

-- the lists by number, with one number put behind the list of one test
abbrev pub put_behind : (ℕ → List ℕ) → ℕ → ℕ → ℕ → List ℕ
put_behind f j number other = f other ++ one_if (j == other) number

later_unchanged : (f : ℕ → List ℕ) (j number least : ℕ) (tests : List PlanTest) → IsAscendingFrom least (numbers_of tests) → j < least → map (λ (t : PlanTest). f t.number) tests ≡ map (λ (t : PlanTest). put_behind f j number t.number) tests
later_unchanged f j number least [] ascends less = refl
later_unchanged f j number least (t ∷ tests) ascends less =
    let other : (j == t.number) ≡ false = eq_less j t.number (omega (arith, ascends.0, less)) in
    ap (λ (ns : List ℕ). ns ∷ map (λ (x : PlanTest). f x.number) tests) (sym (append-nil (f t.number)) ∙ ap (λ (b : Bool). f t.number ++ one_if b number) (sym other))
    ∙ ap (λ (rest : List (List ℕ)). put_behind f j number t.number ∷ rest) (later_unchanged f j number (t.number + 1) tests ascends.1 (omega (arith, ascends.0, less)))

-- the list at the test's place is longer by one, and the others stay
pub put-at : (f : ℕ → List ℕ) (j number least : ℕ) (tests : List PlanTest) (place : ℕ) → IsAscendingFrom least (numbers_of tests) → place < length tests → number_at tests place ≡ j → set (map (λ (t : PlanTest). f t.number) tests) place (get_or (map (λ (t : PlanTest). f t.number) tests) place [] ++ number ∷ []) ≡ map (λ (t : PlanTest). put_behind f j number t.number) tests
put-at f j number least [] place ascends lt is = absurd (omega (arith, lt))
put-at f j number least (t ∷ tests) zero ascends lt is =
    let here : t.number ≡ j = is in
    let same : (j == t.number) ≡ true = eq-eqb j t.number (sym here) in
    ap (λ (b : Bool). (f t.number ++ one_if b number) ∷ map (λ (x : PlanTest). f x.number) tests) (sym same)
    ∙ ap (λ (rest : List (List ℕ)). put_behind f j number t.number ∷ rest) (later_unchanged f j number (t.number + 1) tests ascends.1 (omega (arith, here)))
put-at f j number least (t ∷ tests) (suc place) ascends lt is =
    let inner : place < length tests = omega (arith, lt) in
    let there : number_at tests place ≡ j = is in
    let other : (j == t.number) ≡ false = eq_more j t.number (omega (arith, there, later_bound (t.number + 1) tests place ascends.1 inner)) in
    ap (λ (ns : List ℕ). ns ∷ set (map (λ (x : PlanTest). f x.number) tests) place (get_or (map (λ (x : PlanTest). f x.number) tests) place [] ++ number ∷ [])) (sym (append-nil (f t.number)) ∙ ap (λ (b : Bool). f t.number ++ one_if b number) (sym other))
    ∙ ap (λ (rest : List (List ℕ)). put_behind f j number t.number ∷ rest) (put-at f j number (t.number + 1) tests place ascends.1 inner there)
  where
    later_bound : (from : ℕ) (ts : List PlanTest) (k : ℕ) → IsAscendingFrom from (numbers_of ts) → k < length ts → from ≤ number_at ts k
    later_bound from [] k up in' = absurd (omega (arith, in'))
    later_bound from (x ∷ ts) zero up in' = up.0
    later_bound from (x ∷ ts) (suc k) up in' = omega (arith, up.0, later_bound (x.number + 1) ts k up.1 (omega (arith, in')))

-- if no test has the number, all lists stay
pub put-nowhere : (f : ℕ → List ℕ) (j number : ℕ) (tests : List PlanTest) → test_at tests j ≡ None → map (λ (t : PlanTest). f t.number) tests ≡ map (λ (t : PlanTest). put_behind f j number t.number) tests
put-nowhere f j number [] none = refl
put-nowhere f j number (t ∷ tests) none = elim (cases_Bool (t.number == j)) [
  | inl here ↦ let found : Some t ≡ None = sym (ap (λ (b : Bool). cond b (Some t) (test_at tests j)) here) ∙ none in cc
  | inr other ↦
      let rest : test_at tests j ≡ None = sym (ap (λ (b : Bool). cond b (Some t) (test_at tests j)) other) ∙ none in
      let unlike : (j == t.number) ≡ false = false_from_ne_true (j == t.number) (λ is. false≢true (sym other ∙ eq-eqb t.number j (sym (eqb-true j t.number is)))) in
      ap (λ (ns : List ℕ). ns ∷ map (λ (x : PlanTest). f x.number) tests) (sym (append-nil (f t.number)) ∙ ap (λ (b : Bool). f t.number ++ one_if b number) (sym unlike))
      ∙ ap (λ (rest : List (List ℕ)). put_behind f j number t.number ∷ rest) (put-nowhere f j number tests rest)
]

earlier_none : (least : ℕ) (ns : List ℕ) (i j : ℕ) → IsAscendingFrom least ns → i < length ns → j ≡ get_or ns i 0 → list_any (λ k. k == j) (take i ns) ≡ false
earlier_none least [] i j ascends lt is = absurd (omega (arith, lt))
earlier_none least (n ∷ ns) zero j ascends lt is = refl
earlier_none least (n ∷ ns) (suc i) j ascends lt is =
    let other : (n == j) ≡ false = eq_less n j (omega (arith, is, later (n + 1) ns i ascends.1 (omega (arith, lt)))) in
    ap (λ (b : Bool). b || list_any (λ k. k == j) (take i ns)) other ∙ earlier_none (n + 1) ns i j ascends.1 (omega (arith, lt)) is
  where
    later : (from : ℕ) (ms : List ℕ) (k : ℕ) → IsAscendingFrom from ms → k < length ms → from ≤ get_or ms k 0
    later from [] k up in' = absurd (omega (arith, in'))
    later from (m ∷ ms) zero up in' = up.0
    later from (m ∷ ms) (suc k) up in' = omega (arith, up.0, later (m + 1) ms k up.1 (omega (arith, in')))

one_more : (a b : Bool) (number : ℕ) → (b ≡ true → a ≡ false) → one_if a number ++ one_if b number ≡ one_if (a || b) number
one_more true true number apart = let no : true ≡ false = apart refl in cc
one_more true false number apart = refl
one_more false b number apart = refl

-- the list of the test with a number, after some predecessors of the test `t`
abbrev pub listed : List PlanTest → PlanTest → List ℕ → ℕ → List ℕ
listed earlier t before number = followers_of earlier number ++ one_if (is_in before number) t.number

-- the lists after one more predecessor
pub listed-more : (earlier : List PlanTest) (t : PlanTest) (before : List ℕ) (i j number : ℕ) → IsAscendingFrom 1 before → i < length before → j ≡ get_or before i j → put_behind (listed earlier t (take i before)) j t.number number ≡ listed earlier t (take (i + 1) before) number
listed-more earlier t before i j number ascends lt is =
    append_assoc (followers_of earlier number) (one_if (is_in (take i before) number) t.number) (one_if (j == number) t.number)
    ∙ ap (λ (ns : List ℕ). followers_of earlier number ++ ns)
    (one_more (is_in (take i before) number) (j == number) t.number (λ same.
    ap (λ (n : ℕ). list_any (λ k. k == n) (take i before)) (sym (eqb-true j number same)) ∙ earlier_none 1 before i j ascends lt (is ∙ default_read before i j lt))
    ∙ ap (λ (b : Bool). one_if b t.number) (ap (λ (n : ℕ). is_in (take i before) number || (n == number)) is ∙ sym (list_any_more (λ k. k == number) before i j lt)))
  where
    default_read : (ns : List ℕ) (k d : ℕ) → k < length ns → get_or ns k d ≡ get_or ns k 0
    default_read [] k d in' = absurd (omega (arith, in'))
    default_read (n ∷ ns) zero d in' = refl
    default_read (n ∷ ns) (suc k) d in' = default_read ns k d (omega (arith, in'))

-- the predecessors of the test at a place ascend
pub ascends-at : (tests : List PlanTest) (at : ℕ) (t : PlanTest) → AllAscend (λ (x : PlanTest). x.before) tests → at < length tests → t ≡ get_or tests at t → IsAscendingFrom 1 t.before
ascends-at [] at t all lt is = absurd (omega (arith, lt))
ascends-at (x ∷ tests) zero t all lt is = subst (λ (y : PlanTest). IsAscendingFrom 1 y.before) (sym is) all.0
ascends-at (x ∷ tests) (suc at) t all lt is = ascends-at tests at t all.1 (omega (arith, lt)) is

-- the lists before the first predecessor
pub listed-none : (earlier tests : List PlanTest) (t : PlanTest) → followers_among earlier tests ≡ map (λ (x : PlanTest). listed earlier t [] x.number) tests
listed-none earlier tests t = map-agrees (followers_of earlier) (listed earlier t []) tests (λ k lt. sym (append-nil (followers_of earlier (number_at tests k))))

number_found : (tests : List PlanTest) (j place : ℕ) (d : PlanTest) → IsPlaceOf tests j place → number_at tests place ≡ j
number_found tests j place d is =
    let x = get_or tests place d in
    let found : test_at tests j ≡ Some x = sym is.there ∙ slice_get-get_or tests place d is.within in
    get_or-map (λ (y : PlanTest). y.number) tests place d 0 is.within ∙ eqb-true x.number j (find_passes (λ (y : PlanTest). y.number == j) tests x found)

module _ (tests earlier : List PlanTest) (t : PlanTest) (before : List ℕ) (i j : ℕ) (ascends : IsAscendingFrom 1 (numbers_of tests)) (up : IsAscendingFrom 1 before) (lt : i < length before) (is : j ≡ get_or before i j) where
  all-more : map (λ (x : PlanTest). put_behind (listed earlier t (take i before)) j t.number x.number) tests ≡ map (λ (x : PlanTest). listed earlier t (take (i + 1) before) x.number) tests
  all-more = map-agrees (put_behind (listed earlier t (take i before)) j t.number) (listed earlier t (take (i + 1) before)) tests (λ k inner. listed-more earlier t before i j (number_at tests k) up lt is)

  -- if the predecessor has a place, the list there is longer by the test
  pub put-more : (place : ℕ) → IsPlaceOf tests j place → set (map (λ (x : PlanTest). listed earlier t (take i before) x.number) tests) place (get_or (map (λ (x : PlanTest). listed earlier t (take i before) x.number) tests) place [] ++ t.number ∷ []) ≡ map (λ (x : PlanTest). listed earlier t (take (i + 1) before) x.number) tests
  put-more place there = put-at (listed earlier t (take i before)) j t.number 1 tests place ascends there.within (number_found tests j place t there) ∙ all-more

  -- if the predecessor is no test of the plan, all lists stay
  pub put-no_more : test_at tests j ≡ None → map (λ (x : PlanTest). listed earlier t (take i before) x.number) tests ≡ map (λ (x : PlanTest). listed earlier t (take (i + 1) before) x.number) tests
  put-no_more none = put-nowhere (listed earlier t (take i before)) j t.number tests none ∙ all-more

-- a disabled test is in no list
pub followers-disabled : (tests : List PlanTest) (at : ℕ) (t : PlanTest) → at < length tests → t ≡ get_or tests at t → t.disabled ≡ true → followers_among (take at tests) tests ≡ followers_among (take (at + 1) tests) tests
followers-disabled tests at t lt is off =
    map-agrees (followers_of (take at tests)) (followers_of (take (at + 1) tests)) tests (λ k inner.
    sym (append-nil (followers_of (take at tests) (number_at tests k)))
    ∙ ap (λ (b : Bool). followers_of (take at tests) (number_at tests k) ++ one_if (not b && is_in t.before (number_at tests k)) t.number) (sym off)
    ∙ sym (followers-more tests at t (number_at tests k) lt is))

-- a test that is not disabled is in the list of each of its predecessors
pub followers-enabled : (tests : List PlanTest) (at : ℕ) (t : PlanTest) → at < length tests → t ≡ get_or tests at t → t.disabled ≡ false → map (λ (x : PlanTest). listed (take at tests) t t.before x.number) tests ≡ followers_among (take (at + 1) tests) tests
followers-enabled tests at t lt is on =
    map-agrees (listed (take at tests) t t.before) (followers_of (take (at + 1) tests)) tests (λ k inner.
    ap (λ (b : Bool). followers_of (take at tests) (number_at tests k) ++ one_if (not b && is_in t.before (number_at tests k)) t.number) (sym on)
    ∙ sym (followers-more tests at t (number_at tests k) lt is))

-- the empty lists of the tests up to a place, and one more
none-grows : (tests : List PlanTest) (at : ℕ) → at < length tests → followers_among [] (take (suc at) tests) ≡ followers_among [] (take at tests) ++ [] ∷ []
none-grows [] at lt = absurd (omega (arith, lt))
none-grows (t ∷ ts) zero lt = refl
none-grows (t ∷ ts) (suc at) lt = ap (λ (xs : List (List ℕ)). [] ∷ xs) (none-grows ts at (omega (arith, lt)))

-- one empty list more, behind those of the tests up to a place
pub none-more : (tests : List PlanTest) (at : ℕ) (before now : List (List ℕ)) (last : List ℕ) → at < length tests → before ≡ followers_among [] (take at tests) → last ≡ [] → now ≡ before ++ last ∷ [] → now ≡ followers_among [] (take (at + 1) tests)
none-more tests at before now last lt is empty grows =
    let one : suc at ≡ at + 1 = omega arith in
    grows ∙ ap (λ (xs : List (List ℕ)). xs ++ last ∷ []) is ∙ ap (λ (xs : List ℕ). followers_among [] (take at tests) ++ xs ∷ []) empty ∙ sym (none-grows tests at lt)
    ∙ ap (λ (n : ℕ). followers_among [] (take n tests)) one
