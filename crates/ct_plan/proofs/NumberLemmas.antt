-- The numbers of the members ascend, and each is of a test. The properties of
-- tests are found at the same places.
use Rattle.std.proofs.Common.{ℕ, ◌≡◌, ◌<◌, ◌≤◌, ◌+◌, Bool, true, false, cond, not, zero, suc, List, [], ◌∷◌, length, get_or, map, filter, All, refl, sym, subst, arith}
use Rattle.std.specs.Prelude.{Some, None, slice_get}
use Rattle.std.specs.List.{range_with_len}
use Rattle.std.specs.List.Sorted.{IsStrictlyIncreasing}
use Rattle.std.proofs.lemmas.List.FromFn.{length-range_with_len, get_or-range_with_len}
use Rattle.std.proofs.lemmas.List.Elements.{All-nil, All-cons, All-head, All-tail, All-filter, All-from_get_or}
use Rattle.ct_base.specs.declared.defs.TestDef.{TestDef}
use Rattle.ct_props.specs.declared.props.Props.{Props}
use Rattle.ct_props.specs.declared.wanted.Choice.{Choice}
use Rattle.ct_props.specs.Numbered.{at_number}
use Rattle.ct_select.specs.Chosen.{chosen_tests}
use Rattle.ct_fixture.specs.Drawing.{after_rounds, members_of}
use Rattle.ct_history.specs.Plan.{IsAscendingFrom, enabled}
use Rattle.ct_history.specs.declared.plan.PlanTest.{PlanTest}
use Rattle.ct_history.proofs.AscendLemmas.{range_ascends, ascends_with, ascends-filter, pairs_ascend}

-- each number is that of one of `count` tests
abbrev pub AreOfTests : ℕ → List ℕ → Type 0
AreOfTests count numbers = All (λ number. (0 < number) × (number ≤ count)) numbers

pub increase : (numbers : List ℕ) → IsAscendingFrom 1 numbers → IsStrictlyIncreasing numbers
increase numbers ascends = λ k within. pairs_ascend 1 numbers ascends k (k + 1) 0 (omega arith) within

range_of_tests : (count : ℕ) → AreOfTests count (range_with_len 1 count)
range_of_tests count = All-from_get_or (λ number. (0 < number) × (number ≤ count)) (range_with_len 1 count) 0 (λ k within.
    let long : length (range_with_len 1 count) ≡ count = length-range_with_len 1 count in
    let here : get_or (range_with_len 1 count) k 0 ≡ 1 + k = get_or-range_with_len 1 count k 0 (omega (arith, long)) in
    (omega (arith, here), omega (arith, here, long)))

-- the numbers of some of the tests: they ascend, and each is of a test
pub record AreSome (count : ℕ) (numbers : List ℕ) : Type 0 where
  pub ascend : IsAscendingFrom 1 numbers
  pub of_tests : AreOfTests count numbers

pub some-filter : (p : ℕ → Bool) (count : ℕ) → AreSome count (filter p (range_with_len 1 count))
some-filter p count = record {
  ascend = ascends-filter p 1 (range_with_len 1 count) (range_ascends 1 count);
  of_tests = All-filter p (λ number. (0 < number) × (number ≤ count)) (range_with_len 1 count) (range_of_tests count);
}

some-rounds : (choice : Choice) (props : List Props) (chosen : List ℕ) (rounds : ℕ) → AreSome (length props) chosen → AreSome (length props) (after_rounds choice props chosen rounds)
some-rounds choice props chosen zero some = some
some-rounds choice props chosen (suc rounds) some = some-filter _ (length props)

-- the chosen tests are some of the tests
pub some-chosen : (choice : Choice) (defs : List TestDef) (props : List Props) → length props ≡ length defs → AreSome (length props) (chosen_tests defs props choice)
some-chosen choice defs props paired = subst (λ count. AreSome count (chosen_tests defs props choice)) (sym paired) (some-filter _ (length defs))

-- the members of a run are some of its tests
pub some-members : (choice : Choice) (defs : List TestDef) (props : List Props) → length props ≡ length defs → AreSome (length defs) (members_of choice props (chosen_tests defs props choice))
some-members choice defs props paired =
    subst (λ count. AreSome count (members_of choice props (chosen_tests defs props choice))) paired
    (some-rounds choice props (chosen_tests defs props choice) (length props)
    (some-chosen choice defs props paired))

-- the numbers of tests, where one of them may be left out
numbers_with : (t : PlanTest) (ts : List PlanTest) (b : Bool) → map (λ (u : PlanTest). u.number) (cond b (t ∷ ts) ts) ≡ cond b (t.number ∷ map (λ (u : PlanTest). u.number) ts) (map (λ (u : PlanTest). u.number) ts)
numbers_with t ts true = refl
numbers_with t ts false = refl

pub enabled_ascend : (least : ℕ) (tests : List PlanTest) → IsAscendingFrom least (map (λ (t : PlanTest). t.number) tests) → IsAscendingFrom least (map (λ (t : PlanTest). t.number) (enabled tests))
enabled_ascend least [] ascends = tt
enabled_ascend least (t ∷ ts) ascends =
    subst (IsAscendingFrom least) (sym (numbers_with t (enabled ts) (not t.disabled)))
    (ascends_with least t.number (map (λ (u : PlanTest). u.number) (enabled ts)) ascends.0 (enabled_ascend (t.number + 1) ts ascends.1) (not t.disabled))

of_tests_with : (count first : ℕ) (numbers : List ℕ) → (0 < first) × (first ≤ count) → AreOfTests count numbers → (b : Bool) → AreOfTests count (cond b (first ∷ numbers) numbers)
of_tests_with count first numbers here rest true = All-cons (λ number. (0 < number) × (number ≤ count)) first numbers here rest
of_tests_with count first numbers here rest false = rest

pub enabled_of_tests : (count : ℕ) (tests : List PlanTest) → AreOfTests count (map (λ (t : PlanTest). t.number) tests) → AreOfTests count (map (λ (t : PlanTest). t.number) (enabled tests))
enabled_of_tests count [] of_tests = All-nil (λ number. (0 < number) × (number ≤ count))
enabled_of_tests count (t ∷ ts) of_tests =
    let numbers = map (λ (u : PlanTest). u.number) ts in
    subst (AreOfTests count) (sym (numbers_with t (enabled ts) (not t.disabled)))
    (of_tests_with count t.number (map (λ (u : PlanTest). u.number) (enabled ts))
    (All-head (λ number. (0 < number) × (number ≤ count)) t.number numbers of_tests)
    (enabled_of_tests count ts (All-tail (λ number. (0 < number) × (number ≤ count)) t.number numbers of_tests))
    (not t.disabled))

-- the tests that are not disabled are some of the tests
pub some-enabled : (count : ℕ) (tests : List PlanTest) → AreSome count (map (λ (t : PlanTest). t.number) tests) → AreSome count (map (λ (t : PlanTest). t.number) (enabled tests))
some-enabled count tests some = record { ascend = enabled_ascend 1 tests some.ascend; of_tests = enabled_of_tests count tests some.of_tests }

both_there : (defs : List TestDef) (props : List Props) (place : ℕ) (own : Props) → length props ≡ length defs → slice_get props place ≡ Some own → (def : TestDef) × (slice_get defs place ≡ Some def)
both_there [] [] place own same is = let no : None ≡ Some own = is in absurd (cc)
both_there [] (p ∷ ps) place own same is = absurd (omega (arith, same))
both_there (d ∷ ds) [] place own same is = let no : None ≡ Some own = is in absurd (cc)
both_there (d ∷ ds) (p ∷ ps) zero own same is = (d, refl)
both_there (d ∷ ds) (p ∷ ps) (suc place) own same is = both_there ds ps place own (omega (arith, same)) is

-- where a test has properties, it is there
pub def_of_own : (defs : List TestDef) (props : List Props) → length props ≡ length defs → (number : ℕ) (own : Props) → at_number props number ≡ Some own → (def : TestDef) × (at_number defs number ≡ Some def)
def_of_own defs props same zero own is = let no : None ≡ Some own = is in absurd (cc)
def_of_own defs props same (suc place) own is = both_there defs props place own same is
