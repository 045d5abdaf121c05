-- The weights of tests, and the walk back along the heaviest path.
use Rattle.std.proofs.Common.{◌≡◌, ◌∙◌, sym, ap, subst, Bool, true, false, cond, ℕ, zero, suc, ◌+◌, ◌<◌, ◌≤◌, List, [], ◌∷◌, ◌++◌, All, Contains, length, get_or, map, refl, arith, ltb-true, ⊎_elim}
use Rattle.std.specs.Prelude.{Option, Some, None, IsPermutation, ◌==◌, ◌||◌, max, not, nat_eq, nat_lt}
use Rattle.std.specs.Borrow.{Bor}
use Rattle.std.specs.List.{AllByRecursion, list_all, list_any}
use Rattle.std.specs.List.Sorted.{IsNonDecreasingBy}
use Rattle.std.proofs.lemmas.Bool.{and_parts, eqb-true, cases_lt, or_parts}
use Rattle.std.proofs.lemmas.Bool.Decides.{nat_tests}
use Rattle.std.proofs.lemmas.List.{append-nil, append_assoc, get_or_default}
use Rattle.std.proofs.lemmas.List.Elements.{All-map, All-contains_itself}
use Rattle.std.proofs.lemmas.List.Sorted.{All-permutation, IsPermutation-sym}
use Rattle.ct_history.specs.declared.plan.PlanTest.{PlanTest}
use Rattle.ct_history.specs.declared.plan.PlanParts.{PlanParts}
use Rattle.ct_history.specs.Plan.{IsSound, has_sound_links, is_before_rank, test_at}
use Rattle.ct_history.proofs.PartListLemmas.{among_all}
use Rattle.ct_history.proofs.PlanLemmas.{contained_at}
use Rattle.ct_history.proofs.ProgressLemmas.{all_found}
use Rattle.ct_times.specs.Bounds.{Done, greatest, heaviest_before}
use Rattle.ct_times.specs.First.{AreWeights, GoesBack, IsWeighed, weight_with}
use Rattle.ct_times.proofs.FirstLemmas.{each_of_both, each_weaker}
use Rattle.ct_times.proofs.WalkLemmas.{IsOnWay, way_left, way_shortens}

-- a change at one test leaves the greatest weight of others
module _ (weight new : ℕ → ℕ) (number value : ℕ) (is : (m : ℕ) → new m ≡ cond (number == m) value (weight m)) where
  kept_other : (m : ℕ) → (m == number) ≡ false → new m ≡ weight m
  kept_other m other =
      let apart : (number == m) ≡ false = grind (arith, nat_tests) in
      is m ∙ ap (λ (b : Bool). cond b value (weight m)) apart

  greatest_kept : (ns : List ℕ) → list_any (λ k. k == number) ns ≡ false → greatest new ns ≡ greatest weight ns
  greatest_kept [] none = refl
  greatest_kept (n ∷ ns) none =
      let both = or_parts (n == number) (list_any (λ k. k == number) ns) none in
      ap (λ (w : ℕ). max w (greatest new ns)) (kept_other n both.0) ∙ ap (λ (w : ℕ). max (weight n) w) (greatest_kept ns both.1)

-- the first of these tests are weighed
abbrev pub AreWeighed : ℕ → Done → (ℕ → ℕ) → List (Bor PlanTest) → ℕ → Type 0
AreWeighed level done weight sorted count =
    (k : ℕ) (d : Bor PlanTest) → k < count → IsWeighed level done weight (get_or sorted k d).now

module _ (plan : PlanParts) (sound : IsSound plan) (done : Done) where
  -- no test of at least this rank is before another one of at most this rank
  not_before : (j t : PlanTest) → Contains plan.tests j → Contains plan.tests t → j.rank ≤ t.rank → list_any (λ k. k == t.number) j.before ≡ false
  not_before j t inside there most = by (list_any (λ k. k == t.number) j.before) refl
    where
      by : (b : Bool) → list_any (λ k. k == t.number) j.before ≡ b → b ≡ false
      by false is = refl
      by true is =
          let found = contained_at 1 plan.tests j sound.numbers inside in
          let links = all_found (has_sound_links plan.tests) (λ (x : PlanTest). x.number == j.number) plan.tests j sound.links found in
          let before = (and_parts (list_all (λ i. is_before_rank j.rank (test_at plan.tests i)) j.before) (list_all (λ s. list_any (λ i. i == s) j.before) j.setups) links).0 in
          let low = among_all t.number (λ i. is_before_rank j.rank (test_at plan.tests i)) j.before is before in
          let lower : is_before_rank j.rank (Some t) ≡ true = subst (λ (o : Option PlanTest). is_before_rank j.rank o ≡ true) (contained_at 1 plan.tests t sound.numbers there) low in
          let less = ltb-true t.rank j.rank (and_parts (not t.disabled) (nat_lt t.rank j.rank) lower).1 in
          absurd (omega (arith, most, less))

  -- two tests of the plan with one number are one
  same_test : (j t : PlanTest) → Contains plan.tests j → Contains plan.tests t → t.number ≡ j.number → j ≡ t
  same_test j t inside there same =
      let one = contained_at 1 plan.tests j sound.numbers inside in
      let other = contained_at 1 plan.tests t sound.numbers there in
      let both : Some j ≡ Some t = sym one ∙ ap (test_at plan.tests) (sym same) ∙ other in
      cc

  module _ (weight new : ℕ → ℕ) (t : PlanTest) (there : Contains plan.tests t) (is : (m : ℕ) → new m ≡ cond (t.number == m) (weight_with plan.level done weight t) (weight m)) where
    -- the test that is weighed has its weight
    weighed_here : IsWeighed plan.level done new t
    weighed_here =
        let own : (t.number == t.number) ≡ true = grind (arith, nat_tests) in
        let kept = greatest_kept weight new t.number (weight_with plan.level done weight t) is t.before (not_before t t there there (omega arith)) in
        let value : new t.number ≡ weight_with plan.level done weight t = is t.number ∙ ap (λ (b : Bool). cond b (weight_with plan.level done weight t) (weight t.number)) own in
        omega (arith, value, kept)

    -- and those of at most its rank keep theirs
    weighed_there : (j : PlanTest) → Contains plan.tests j → j.rank ≤ t.rank → IsWeighed plan.level done weight j → IsWeighed plan.level done new j
    weighed_there j inside most was = by (t.number == j.number) refl
      where
        by : (b : Bool) → (t.number == j.number) ≡ b → IsWeighed plan.level done new j
        by true same = subst (λ (x : PlanTest). IsWeighed plan.level done new x) (sym (same_test j t inside there (eqb-true t.number j.number same))) weighed_here
        by false other =
            let kept = greatest_kept weight new t.number (weight_with plan.level done weight t) is j.before (not_before j t inside there most) in
            let value : new j.number ≡ weight j.number = is j.number ∙ ap (λ (b : Bool). cond b (weight_with plan.level done weight t) (weight j.number)) other in
            omega (arith, value, kept, was)

  module _ (sorted : List (Bor PlanTest)) (same : IsPermutation plan.tests (map (λ (t : Bor PlanTest). t.now) sorted)) (up : IsNonDecreasingBy (λ (t : Bor PlanTest). t.now.rank) sorted) where
    sorted_there : (k : ℕ) (d : Bor PlanTest) → k < length sorted → Contains plan.tests (get_or sorted k d).now
    sorted_there k d within =
        All-back (λ (t : PlanTest). Contains plan.tests t) sorted
        (All-permutation (λ (t : PlanTest). Contains plan.tests t) plan.tests (map (λ (t : Bor PlanTest). t.now) sorted) same (All-contains_itself plan.tests)) k d within
      where
        All-back : (P : PlanTest → Type 0) (bs : List (Bor PlanTest)) → All P (map (λ (t : Bor PlanTest). t.now) bs) → (k : ℕ) (d : Bor PlanTest) → k < length bs → P (get_or bs k d).now
        All-back P [] all k d lt = absurd (omega (arith, lt))
        All-back P (b ∷ bs) all zero d lt = all 0 d.now (omega arith)
        All-back P (b ∷ bs) all (suc k) d lt = All-back P bs (λ i e less. all (suc i) e (omega (arith, less))) k d (omega (arith, lt))

    pub weighed_more : (weight new : ℕ → ℕ) (at : ℕ) (t : Bor PlanTest) → at < length sorted → t ≡ get_or sorted at t
        → ((m : ℕ) → new m ≡ cond (t.now.number == m) (weight_with plan.level done weight t.now) (weight m))
        → AreWeighed plan.level done weight sorted at → AreWeighed plan.level done new sorted (at + 1)
    weighed_more weight new at t within here is were k d less =
        ⊎_elim
        (λ (before : k < at).
        weighed_there weight new t.now there is (get_or sorted k d).now (sorted_there k d (omega (arith, before, within)))
        (omega (arith, up k at d (omega (arith, before)) within, ap (λ (b : Bor PlanTest). b.now.rank) (at_d d))) (were k d before))
        (λ (most : at ≤ k).
        let place : k ≡ at = omega (arith, most, less) in
        subst (λ (n : ℕ). IsWeighed plan.level done new (get_or sorted n d).now) (sym place)
        (subst (λ (b : Bor PlanTest). IsWeighed plan.level done new b.now) (sym (at_d d)) (weighed_here weight new t.now there is)))
        (cases_lt k at)
      where
        at_d : (d : Bor PlanTest) → get_or sorted at d ≡ t
        at_d d = get_or_default sorted at d t within ∙ sym here

        there : Contains plan.tests t.now
        there = subst (λ (b : Bor PlanTest). Contains plan.tests b.now) (sym here) (sorted_there at t within)

    -- all of them are weighed, and so all tests of the plan
    pub weighed_all : (weight : ℕ → ℕ) (count : ℕ) → length sorted ≤ count → AreWeighed plan.level done weight sorted count → AreWeights plan done weight
    weighed_all weight count all are =
        All-permutation (IsWeighed plan.level done weight) (map (λ (t : Bor PlanTest). t.now) sorted) plan.tests
        (IsPermutation-sym plan.tests (map (λ (t : Bor PlanTest). t.now) sorted) same)
        (All-map (IsWeighed plan.level done weight) (λ (t : Bor PlanTest). t.now) sorted (λ k d less. are k d (omega (arith, less, all))))

-- a number that lies below all of these by a measure is not among them
not_among : (measure : ℕ → ℕ) (n : ℕ) (keys : List ℕ) → AllByRecursion (λ k. measure n < measure k) keys → list_any (nat_eq n) keys ≡ false
not_among measure n [] all = refl
not_among measure n (k ∷ ks) all = by (nat_eq n k) refl (not_among measure n ks all.1)
  where
    by : (b : Bool) → nat_eq n k ≡ b → list_any (nat_eq n) ks ≡ false → (b || list_any (nat_eq n) ks) ≡ false
    by true is rest =
        let same : n ≡ k = eqb-true n k is in
        absurd (omega (arith, all.0, ap measure same))
    by false is rest = rest

-- the walk back so far, and the next test on it: it is not yet on the path, whose tests all rank above it
pub record HasGoneBack (weight : ℕ → ℕ) (tests : List PlanTest) (end : Option ℕ) (keys : List ℕ) (next : Option ℕ) : Type 0 where
  pub way : IsOnWay tests keys next
  pub goes_on : (rest : List ℕ) → GoesBack weight tests next rest → GoesBack weight tests end (keys ++ rest)
  pub above : AllByRecursion (λ k. way_left tests next < way_left tests (Some k)) keys

-- the next key is new
pub gone_new : (weight : ℕ → ℕ) (tests : List PlanTest) (end : Option ℕ) (keys : List ℕ) (n : ℕ) → HasGoneBack weight tests end keys (Some n) → list_any (nat_eq n) keys ≡ false
gone_new weight tests end keys n gone = not_among (λ k. way_left tests (Some k)) n keys gone.above

pub gone_more : (weight : ℕ → ℕ) (tests : List PlanTest) (end : Option ℕ) (keys : List ℕ) (n : ℕ) (next : Option ℕ) → list_all (has_sound_links tests) tests ≡ true
    → HasGoneBack weight tests end keys (Some n) → IsOnWay tests (keys ++ n ∷ []) next → next ≡ heaviest_before weight (test_at tests n) → HasGoneBack weight tests end (keys ++ n ∷ []) next
gone_more weight tests end keys n next links gone way leads = record {
  way = way;
  goes_on = λ rest goes. subst (λ (ks : List ℕ). GoesBack weight tests end ks) (sym (append_assoc keys (n ∷ []) rest))
      (gone.goes_on (n ∷ rest) (refl, subst (λ (o : Option ℕ). GoesBack weight tests o rest) leads goes));
  above = each_of_both (λ k. way_left tests next < way_left tests (Some k)) keys (n ∷ [])
      (each_weaker (λ k. way_left tests (Some n) < way_left tests (Some k)) (λ k. way_left tests next < way_left tests (Some k)) (λ k less. omega (arith, less, lower)) keys gone.above)
      (lower, tt);
}
  where
    lower : way_left tests next < way_left tests (Some n)
    lower = way_shortens tests weight n next links leads

-- where none is next, the path is whole
pub gone_whole : (weight : ℕ → ℕ) (tests : List PlanTest) (end : Option ℕ) (keys : List ℕ) → HasGoneBack weight tests end keys None → GoesBack weight tests end keys
gone_whole weight tests end keys gone = subst (λ (ks : List ℕ). GoesBack weight tests end ks) (append-nil keys) (gone.goes_on [] refl)
