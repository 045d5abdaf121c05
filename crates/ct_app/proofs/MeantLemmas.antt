-- The meant verdict of a test follows from the meant verdicts of its setups, and from its first attempts.
use Rattle.std.proofs.Common.{◌≡◌, ◌∙◌, sym, ap, subst, Bool, true, false, ℕ, zero, suc, ◌+◌, ◌-◌, ◌≤◌, ◌<◌, List, [], ◌∷◌, ◌++◌, length, refl, arith, inl, inr}
use Rattle.std.specs.Prelude.{Option, Some, None, IsNone, find, map, option_map, not, ◌&&◌, ◌||◌, ◌==◌, ◌⊎◌, cond, nat_lt, if◌then◌else◌}
use Rattle.std.specs.List.{list_any, list_all, range_with_len}
use Rattle.std.proofs.lemmas.Bool.{and_parts, and_from, cases_Bool, ltb-true}
use Rattle.std.proofs.lemmas.Bool.Decides.{nat_tests}
use Rattle.std.proofs.lemmas.List.FromFn.{length-map-range_with_len, map-range_with_len_more}
use Rattle.ct_verdict.specs.declared.attempt.Seen.{Seen}
use Rattle.ct_verdict.specs.declared.repeat.Repeat.{Repeat}
use Rattle.ct_verdict.specs.declared.rules.Rules.{Rules}
use Rattle.ct_verdict.specs.declared.verdict.Verdict.{Verdict}
use Rattle.ct_verdict.specs.declared.verdict.Verdict.TheVariants.{Disabled}
use Rattle.ct_verdict.specs.Verdict.{asks_again, is_repeated, verdict_of}
use Rattle.ct_history.specs.declared.plan.PlanTest.{PlanTest}
use Rattle.ct_history.specs.declared.plan.PlanParts.{PlanParts}
use Rattle.ct_history.specs.Plan.{IsAscendingFrom, has_sound_links, is_before_rank, test_at}
use Rattle.ct_history.specs.Verdicts.{is_over, is_passed_verdict, last_of_list, settled_or}
use Rattle.ct_history.specs.Rules.{cause_behind}
use Rattle.ct_history.proofs.AttemptLemmas.{empty_of_no_last, last_or-snoc}
use Rattle.ct_history.proofs.PartListLemmas.{find_where}
use Rattle.ct_history.proofs.ProgressLemmas.{all_found}
use Rattle.ct_app.specs.Meant.{first_verdicts, last_attempt, meant_by_setups, meant_of_attempts, meant_verdict, meant_within}

one_among : (p : ℕ → Bool) (s : ℕ) (all : List ℕ) → list_any (λ j. j == s) all ≡ true → list_all p all ≡ true → p s ≡ true
one_among p s [] is passes = cc
one_among p s (j ∷ js) is passes = elim (cases_Bool (j == s)) [
  | inl here ↦
      let same : j ≡ s = grind (arith, nat_tests) in
      subst (λ (n : ℕ). p n ≡ true) same (and_parts (p j) (list_all p js) passes).0
  | inr not_here ↦ one_among p s js (sym (ap (λ (b : Bool). b || list_any (λ i. i == s) js) not_here) ∙ is) (and_parts (p j) (list_all p js) passes).1
]

-- where all numbers of a list pass, so do numbers that are all members of the list
pub all_among : (p : ℕ → Bool) (some all : List ℕ) → list_all (λ s. list_any (λ j. j == s) all) some ≡ true → list_all p all ≡ true → list_all p some ≡ true
all_among p [] all among passes = refl
all_among p (s ∷ some) all among passes =
    let both = and_parts (list_any (λ j. j == s) all) (list_all (λ i. list_any (λ j. j == i) all) some) among in
    and_from (p s) (list_all p some) (one_among p s all both.0 passes) (all_among p some all both.1 passes)

-- the first number of a row that passes is found
find_in_row : (p : ℕ → Bool) (first many n : ℕ) → first ≤ n → n < first + many → p n ≡ true → ((j : ℕ) → first ≤ j → j < n → p j ≡ false) → find p (range_with_len first many) ≡ Some n
find_in_row p first zero n low high here before = absurd (omega (arith, low, high))
find_in_row p first (suc many) n low high here before = elim (cases_Bool (first == n)) [
  | inl reached ↦
      let same : first ≡ n = grind (arith, nat_tests) in
      ap (λ (b : Bool). cond b (Some first) (find p (range_with_len (first + 1) many))) (ap p same ∙ here) ∙ ap Some same
  | inr below ↦
      let less : first < n = grind (arith, nat_tests) in
      ap (λ (b : Bool). cond b (Some first) (find p (range_with_len (first + 1) many))) (before first (omega arith) less)
      ∙ find_in_row p (first + 1) many n (omega (arith, less)) (omega (arith, high)) here (λ j least most. before j (omega (arith, least)) most)
]

-- one for true, else zero
unfoldable one_if : Bool → ℕ
one_if b = cond b 1 0

one_least : (a b : Bool) → (a ≡ true → b ≡ true) → one_if a ≤ one_if b
unfolding one_if
one_least true true each = omega arith
one_least true false each = let no = each refl in (cc)
one_least false true each = omega arith
one_least false false each = omega arith

one_most : (a : Bool) → one_if a ≤ 1
unfolding one_if
one_most true = omega arith
one_most false = omega arith

one_less : (a b : Bool) → a ≡ false → b ≡ true → one_if a < one_if b
unfolding one_if
one_less true b fails passes = cc
one_less false true fails passes = omega arith
one_less false false fails passes = cc

-- how many elements pass a test
abbrev count_of : {A : Type 0} → (A → Bool) → List A → ℕ
count_of p [] = 0
count_of p (x ∷ xs) = one_if (p x) + count_of p xs

count_within : {A : Type 0} (p : A → Bool) (xs : List A) → count_of p xs ≤ length xs
count_within p [] = omega arith
count_within p (x ∷ xs) = omega (arith, one_most (p x), count_within p xs)

-- as many or fewer elements pass `p` than `q`, where each that passes `p` passes `q`
count_most : {A : Type 0} (p q : A → Bool) (xs : List A) → ((x : A) → p x ≡ true → q x ≡ true) → count_of p xs ≤ count_of q xs
count_most p q [] each = omega arith
count_most p q (x ∷ xs) each = omega (arith, one_least (p x) (q x) (each x), count_most p q xs each)

-- fewer elements pass `p` than `q`, where each that passes `p` passes `q` and one passes `q` alone
count_less : {A : Type 0} (p q r : A → Bool) (xs : List A) (x : A) → ((y : A) → p y ≡ true → q y ≡ true) → find r xs ≡ Some x → p x ≡ false → q x ≡ true → count_of p xs < count_of q xs
count_less p q r [] x each is fails passes = cc
count_less p q r (y ∷ ys) x each is fails passes = elim (cases_Bool (r y)) [
  | inl here ↦
      let found : Some y ≡ Some x = sym (ap (λ (b : Bool). cond b (Some y) (find r ys)) here) ∙ is in
      let same : y ≡ x = cc in
      let one = one_less (p y) (q y) (ap p same ∙ fails) (ap q same ∙ passes) in
      omega (arith, one, count_most p q ys each)
  | inr not_here ↦
      let later = count_less p q r ys x each (sym (ap (λ (b : Bool). cond b (Some y) (find r ys)) not_here) ∙ is) fails passes in
      omega (arith, one_least (p y) (q y) (each y), later)
]

-- how many tests have a lesser rank than this one
abbrev depth_of : List PlanTest → Option PlanTest → ℕ
depth_of tests None = 0
depth_of tests (Some t) = count_of (λ (u : PlanTest). nat_lt u.rank t.rank) tests

-- a test with a lesser rank has a lesser depth
depth_less : (tests : List PlanTest) (number : ℕ) (t : PlanTest) (o : Option PlanTest) → test_at tests number ≡ o → is_before_rank t.rank o ≡ true → depth_of tests o < depth_of tests (Some t)
depth_less tests number t None found is = cc
depth_less tests number t (Some u) found is =
    let lesser = (and_parts (not u.disabled) (nat_lt u.rank t.rank) is).1 in
    count_less (λ (x : PlanTest). nat_lt x.rank u.rank) (λ (x : PlanTest). nat_lt x.rank t.rank) (λ (x : PlanTest). x.number == number) tests u (λ x less. grind (arith, nat_tests)) found (grind (arith, nat_tests)) lesser

-- the depth of a test is less than the number of tests
depth_few : (tests : List PlanTest) (number : ℕ) (t : PlanTest) → test_at tests number ≡ Some t → depth_of tests (Some t) < length tests
depth_few tests number t found =
    let less = count_less (λ (x : PlanTest). nat_lt x.rank t.rank) (λ (x : PlanTest). true) (λ (x : PlanTest). x.number == number) tests t (λ x is. refl) found (grind (arith, nat_tests)) refl in
    omega (arith, less, count_within (λ (x : PlanTest). true) tests)

-- the meant verdict of a test is the same where the meant verdicts of its setups are the same
by_setups_same : (repeat : Repeat) (seen : ℕ → ℕ → Seen) (one other : ℕ → Option Verdict) (t : PlanTest) (ok : ℕ → Bool) → list_all ok t.setups ≡ true → ((s : ℕ) → ok s ≡ true → one s ≡ other s) → meant_by_setups repeat seen one (Some t) ≡ meant_by_setups repeat seen other (Some t)
by_setups_same repeat seen one other t ok all same =
    ap (λ (o : Option ℕ). if t.disabled then Some Disabled else settled_or (cause_behind o t.fixed) (meant_of_attempts repeat t.rules (seen t.number)))
    (find_where ok (λ s. not (is_passed_verdict (one s))) (λ s. not (is_passed_verdict (other s))) (λ s passes. ap (λ (o : Option Verdict). not (is_passed_verdict o)) (same s passes)) t.setups all)

-- what each sound plan has: numbers that ascend, predecessors with lesser ranks, and at least one attempt
pub record IsRanked (plan : PlanParts) : Type 0 where
  pub numbers : IsAscendingFrom 1 (map (λ (t : PlanTest). t.number) plan.tests)
  pub links : list_all (has_sound_links plan.tests) plan.tests ≡ true
  pub times : 1 ≤ plan.repeat.times

module _ (plan : PlanParts) (ranked : IsRanked plan) where
  -- a test's setups are among its predecessors
  pub setups_before : (number : ℕ) (t : PlanTest) → test_at plan.tests number ≡ Some t → (p : ℕ → Bool) → list_all p t.before ≡ true → list_all p t.setups ≡ true
  setups_before number t found p all =
      let linked = all_found (has_sound_links plan.tests) (λ (x : PlanTest). x.number == number) plan.tests t ranked.links found in
      let both = and_parts (list_all (λ j. is_before_rank t.rank (test_at plan.tests j)) t.before) (list_all (λ s. list_any (λ j. j == s) t.before) t.setups) linked in
      all_among p t.setups t.before both.1 all

  -- a test's setups have lesser ranks than the test
  setups_rank : (number : ℕ) (t : PlanTest) → test_at plan.tests number ≡ Some t → list_all (λ s. is_before_rank t.rank (test_at plan.tests s)) t.setups ≡ true
  setups_rank number t found =
      let linked = all_found (has_sound_links plan.tests) (λ (x : PlanTest). x.number == number) plan.tests t ranked.links found in
      let both = and_parts (list_all (λ j. is_before_rank t.rank (test_at plan.tests j)) t.before) (list_all (λ s. list_any (λ j. j == s) t.before) t.setups) linked in
      setups_before number t found (λ s. is_before_rank t.rank (test_at plan.tests s)) both.0

  module _ (seen : ℕ → ℕ → Seen) where
    same_one_down : (one other number : ℕ) (o : Option PlanTest) → test_at plan.tests number ≡ o → depth_of plan.tests o ≤ one → depth_of plan.tests o ≤ other → ((s : ℕ) → depth_of plan.tests (test_at plan.tests s) < one → depth_of plan.tests (test_at plan.tests s) < other → meant_within plan seen one s ≡ meant_within plan seen other s) → meant_by_setups plan.repeat seen (meant_within plan seen one) o ≡ meant_by_setups plan.repeat seen (meant_within plan seen other) o
    same_one_down one other number None found low high below = refl
    same_one_down one other number (Some t) found low high below =
        by_setups_same plan.repeat seen (meant_within plan seen one) (meant_within plan seen other) t (λ s. is_before_rank t.rank (test_at plan.tests s)) (setups_rank number t found)
        (λ s lesser. let less = depth_less plan.tests s t (test_at plan.tests s) refl lesser in below s (omega (arith, less, low)) (omega (arith, less, high)))

    -- the meant verdict is the same for all numbers of steps above the depth of the test
    within_same : (one other number : ℕ) → depth_of plan.tests (test_at plan.tests number) < one → depth_of plan.tests (test_at plan.tests number) < other → meant_within plan seen one number ≡ meant_within plan seen other number
    within_same zero other number low high = absurd (omega (arith, low))
    within_same (suc one) zero number low high = absurd (omega (arith, high))
    within_same (suc one) (suc other) number low high =
        same_one_down one other number (test_at plan.tests number) refl (omega (arith, low)) (omega (arith, high)) (λ s less lesser. within_same one other s less lesser)

    -- a number of no test has no meant verdict
    within_none : (steps number : ℕ) → test_at plan.tests number ≡ None → meant_within plan seen steps number ≡ None
    within_none zero number none = refl
    within_none (suc steps) number none = ap (λ (o : Option PlanTest). meant_by_setups plan.repeat seen (meant_within plan seen steps) o) none

    -- the meant verdict of a test, by the meant verdicts of its setups
    pub meant_verdict-is : (number : ℕ) → meant_verdict plan seen number ≡ meant_by_setups plan.repeat seen (meant_verdict plan seen) (test_at plan.tests number)
    meant_verdict-is number = by_test (test_at plan.tests number) refl
      where
        by_test : (o : Option PlanTest) → test_at plan.tests number ≡ o → meant_verdict plan seen number ≡ meant_by_setups plan.repeat seen (meant_verdict plan seen) (test_at plan.tests number)
        by_test None found =
            within_none (length plan.tests) number found ∙ sym (within_none (suc (length plan.tests)) number found)
        by_test (Some t) found =
            let few : depth_of plan.tests (test_at plan.tests number) < length plan.tests = subst (λ (o : Option PlanTest). depth_of plan.tests o < length plan.tests) (sym found) (depth_few plan.tests number t found) in
            within_same (length plan.tests) (suc (length plan.tests)) number few (omega (arith, few))

-- one more attempt adds its verdict at the end
pub first_verdicts-more : (rules : Rules) (seen : ℕ → Seen) (count : ℕ) → first_verdicts rules seen (count + 1) ≡ first_verdicts rules seen count ++ verdict_of rules (seen (count + 1)) ∷ []
first_verdicts-more rules seen count = map-range_with_len_more (λ k. verdict_of rules (seen k)) 1 count (count + 1) (omega arith)

-- the last of the first attempts has the verdict of what was seen of it
pub last_of_first : (rules : Rules) (seen : ℕ → Seen) (count : ℕ) → last_of_list (first_verdicts rules seen (count + 1)) ≡ Some (verdict_of rules (seen (count + 1)))
last_of_first rules seen count = ap last_of_list (first_verdicts-more rules seen count) ∙ last_or-snoc None (first_verdicts rules seen count) (verdict_of rules (seen (count + 1)))

-- attempts that are not over are none, or fewer than the times of the repeat
not_over_few : (repeat : Repeat) (vs : List Verdict) → is_over repeat vs ≡ false → (length vs ≡ 0) ⊎ (length vs < repeat.times)
not_over_few repeat vs goes = by_last (last_of_list vs) refl
  where
    again : (b : Bool) → not b ≡ false → b ≡ true
    again true is = refl
    again false is = cc

    by_last : (last : Option Verdict) → last_of_list vs ≡ last → (length vs ≡ 0) ⊎ (length vs < repeat.times)
    by_last None is = inl (empty_of_no_last vs (subst (λ (o : Option Verdict). IsNone o) (sym is) refl))
    by_last (Some v) is =
        let here : (nat_lt (length vs) repeat.times && asks_again repeat.mode v) ≡ true = sym (ap (λ (o : Option Verdict). is_repeated repeat (length vs) o) is) ∙ again (is_repeated repeat (length vs) (last_of_list vs)) goes in
        inr (ltb-true (length vs) repeat.times (and_parts (nat_lt (length vs) repeat.times) (asks_again repeat.mode v) here).0)

-- the first attempt with which the attempts are over is the last attempt
pub last_attempt-is : (repeat : Repeat) (rules : Rules) (seen : ℕ → Seen) (n : ℕ) → 1 ≤ repeat.times → 1 ≤ n → is_over repeat (first_verdicts rules seen n) ≡ true → ((j : ℕ) → j < n → is_over repeat (first_verdicts rules seen j) ≡ false) → last_attempt repeat rules seen ≡ Some n
last_attempt-is repeat rules seen n some low over before =
    find_in_row (λ k. is_over repeat (first_verdicts rules seen k)) 1 repeat.times n low within over (λ j least most. before j most)
  where
    long : length (first_verdicts rules seen (n - 1)) ≡ n - 1
    long = length-map-range_with_len (λ k. verdict_of rules (seen k)) 1 (n - 1)

    within : n < 1 + repeat.times
    within = elim (not_over_few repeat (first_verdicts rules seen (n - 1)) (before (n - 1) (omega (arith, low)))) [
      | inl none ↦ omega (arith, long, none, some)
      | inr few ↦ omega (arith, long, few)
    ]

-- attempts whose last verdict passed are at least one
pub some_attempt : (rules : Rules) (seen : ℕ → Seen) (n : ℕ) → is_passed_verdict (last_of_list (first_verdicts rules seen n)) ≡ true → 1 ≤ n
some_attempt rules seen zero passed = cc
some_attempt rules seen (suc n) passed = omega arith

-- the first attempt with which the attempts are over has the verdict that the attempts are meant to have
pub attempts_meant : (repeat : Repeat) (rules : Rules) (seen : ℕ → Seen) (count : ℕ) → 1 ≤ repeat.times → is_over repeat (first_verdicts rules seen (count + 1)) ≡ true → ((j : ℕ) → j < count + 1 → is_over repeat (first_verdicts rules seen j) ≡ false) → meant_of_attempts repeat rules seen ≡ Some (verdict_of rules (seen (count + 1)))
attempts_meant repeat rules seen count some over before =
    ap (λ (o : Option ℕ). option_map (λ k. verdict_of rules (seen k)) o) (last_attempt-is repeat rules seen (count + 1) some (omega arith) over before)
