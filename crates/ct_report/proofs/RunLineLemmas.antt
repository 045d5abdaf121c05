-- What the lines of a run need, with one entry more.
use Rattle.std.proofs.Common.{◌≡◌, ◌∙◌, sym, ap, subst, Bool, true, false, ℕ, zero, suc, ◌+◌, ◌-◌, ◌^◌, ◌<◌, min, inl, inr, List, [], ◌∷◌, ◌++◌, length, length-append, get_or, take, map, arith, refl, eqb-true}
use Rattle.std.specs.Prelude.{Option, Some, None, IsSome, ◌==◌, cond, if◌then◌else◌, slice_get, slice_set, sum_by}
use Rattle.std.proofs.lemmas.Bool.{cases_Bool}
use Rattle.std.proofs.lemmas.Bool.Decides.{nat_tests}
use Rattle.std.proofs.lemmas.List.{get_or-map, take-append-le, take_all}
use Rattle.std.proofs.lemmas.List.Sums.{sum_by-append}
use Rattle.std.proofs.lemmas.Option.{get_or_from_slice_get, slice_get_read}
use Rattle.ct_verdict.specs.declared.attempt.Seen.{Seen}
use Rattle.ct_verdict.specs.declared.verdict.Verdict.{Verdict}
use Rattle.ct_history.proofs.PlaceLemmas.{place_bound}
use Rattle.ct_history.specs.declared.plan.PlanTest.{PlanTest}
use Rattle.ct_history.specs.declared.plan.PlanParts.{PlanParts}
use Rattle.ct_history.specs.declared.history.Entry.{Entry}
use Rattle.ct_history.specs.declared.history.Entry.TheVariants.{Start, End, Settle, Stop}
use Rattle.ct_history.specs.Plan.{IsAscendingFrom, enabled, test_at}
use Rattle.ct_history.specs.Verdicts.{verdict_at, verdict_in, verdict_of_test}
use Rattle.ct_history.proofs.PlanLemmas.{find_passes}
use Rattle.ct_report.specs.declared.run_lines.TestLines.{TestLines}
use Rattle.ct_report.specs.Report.{line_with, micros_by, micros_of, numbered_line, test_line}
use Rattle.ct_report.specs.RunLines.{KnowsLines, NotesEntry, micros_each}

-- one entry more adds its microseconds
micros_more : (n : ℕ) (es : List Entry) (e : Entry) → sum_by (micros_by n) (es ++ e ∷ []) ≡ sum_by (micros_by n) es + micros_by n e
micros_more n es e = omega (arith, sum_by-append (micros_by n) es (e ∷ []))

micros_other : (n : ℕ) (es : List Entry) (e : Entry) → micros_by n e ≡ 0 → micros_of n (es ++ e ∷ []) ≡ micros_of n es
micros_other n es e none = omega (arith, micros_more n es e, none)

-- the sum as the code adds it up is the one of the definition
micros_added : (n m : ℕ) (es : List Entry) (e : Entry) → micros_by n e ≡ m → min (min (micros_of n es + m) (2 ^ 64 - 1)) (10 ^ 18) ≡ micros_of n (es ++ e ∷ [])
micros_added n m es e is = omega (arith, micros_more n es e, is)

-- an entry without microseconds leaves those of each test
each_same : (tests : List PlanTest) (es : List Entry) (e : Entry) → ((n : ℕ) → micros_by n e ≡ 0) → micros_each tests (es ++ e ∷ []) ≡ micros_each tests es
each_same [] es e none = refl
each_same (t ∷ ts) es e none =
    ap (λ (m : ℕ). m ∷ micros_each ts (es ++ e ∷ [])) (micros_other t.number es e (none t.number)) ∙ ap (λ (ms : List ℕ). micros_of t.number es ∷ ms) (each_same ts es e none)

module _ (n a w : ℕ) (seen : Seen) where
  other_none : (k : ℕ) → (k == n) ≡ false → micros_by k (End n a w seen) ≡ 0
  other_none k other = ap (λ (b : Bool). if b then seen.micros else 0) unlike
    where
      unlike : (n == k) ≡ false
      unlike = grind (arith, nat_tests, other)

  -- an End of a test that is not there leaves those of each test
  each_unplanned : (tests : List PlanTest) (es : List Entry) → test_at tests n ≡ None → micros_each tests (es ++ End n a w seen ∷ []) ≡ micros_each tests es
  each_unplanned [] es none = refl
  each_unplanned (t ∷ ts) es none = elim (cases_Bool (t.number == n)) [
    | inl here ↦
        let found : Some t ≡ None = sym (ap (λ (b : Bool). cond b (Some t) (test_at ts n)) here) ∙ none in
        absurd (cc)
    | inr other ↦
        let rest : test_at ts n ≡ None = sym (ap (λ (b : Bool). cond b (Some t) (test_at ts n)) other) ∙ none in
        ap (λ (m : ℕ). m ∷ micros_each ts (es ++ End n a w seen ∷ [])) (micros_other t.number es (End n a w seen) (other_none t.number other))
        ∙ ap (λ (ms : List ℕ). micros_of t.number es ∷ ms) (each_unplanned ts es rest)
  ]

  each_above : (least : ℕ) (tests : List PlanTest) (es : List Entry) → IsAscendingFrom least (map (λ (t : PlanTest). t.number) tests) → n < least → micros_each tests (es ++ End n a w seen ∷ []) ≡ micros_each tests es
  each_above least [] es ascends lt = refl
  each_above least (t ∷ ts) es ascends lt =
      let le = ascends.0 in
      let other : (t.number == n) ≡ false = grind (arith, nat_tests) in
      ap (λ (m : ℕ). m ∷ micros_each ts (es ++ End n a w seen ∷ [])) (micros_other t.number es (End n a w seen) (other_none t.number other))
      ∙ ap (λ (ms : List ℕ). micros_of t.number es ∷ ms) (each_above (t.number + 1) ts es ascends.1 (omega (arith, lt, le)))

  -- an End of a test sets those at its place
  each_set : (least : ℕ) (tests : List PlanTest) (place : ℕ) (t : PlanTest) (es : List Entry) → IsAscendingFrom least (map (λ (x : PlanTest). x.number) tests) → slice_get tests place ≡ Some t → t.number ≡ n → micros_each tests (es ++ End n a w seen ∷ []) ≡ slice_set (micros_each tests es) place (micros_of n (es ++ End n a w seen ∷ []))
  each_set least [] place t es ascends is number = cc
  each_set least (x ∷ xs) zero t es ascends is number =
      let here : x ≡ t = cc in
      let at : x.number ≡ n = ap (λ (y : PlanTest). y.number) here ∙ number in
      ap (λ (k : ℕ). micros_of k (es ++ End n a w seen ∷ []) ∷ micros_each xs (es ++ End n a w seen ∷ [])) at
      ∙ ap (λ (ms : List ℕ). micros_of n (es ++ End n a w seen ∷ []) ∷ ms) (each_above (x.number + 1) xs es ascends.1 (omega (arith, at)))
  each_set least (x ∷ xs) (suc k) t es ascends is number =
      let bound = place_bound (x.number + 1) xs k t ascends.1 is in
      let other : (x.number == n) ≡ false = grind (arith, nat_tests) in
      ap (λ (m : ℕ). m ∷ micros_each xs (es ++ End n a w seen ∷ [])) (micros_other x.number es (End n a w seen) (other_none x.number other))
      ∙ ap (λ (ms : List ℕ). micros_of x.number es ∷ ms) (each_set (x.number + 1) xs k t es ascends.1 is number)

  got : (tests : List PlanTest) (place : ℕ) → place < length tests → (t : PlanTest) × (slice_get tests place ≡ Some t)
  got [] place lt = absurd (omega (arith, lt))
  got (x ∷ xs) zero lt = (x, refl)
  got (x ∷ xs) (suc k) lt = got xs k (omega (arith, lt))

  -- a new sum at the place of a test notes the End of the test
  pub notes_planned : (tests : List PlanTest) (place old value : ℕ) (micros : List ℕ) → IsAscendingFrom 1 (map (λ (x : PlanTest). x.number) tests) → place < length tests → slice_get tests place ≡ test_at tests n → old ≡ get_or micros place old → value ≡ min (min (old + seen.micros) (2 ^ 64 - 1)) (10 ^ 18) → NotesEntry tests (End n a w seen) micros (slice_set micros place value)
  notes_planned tests place old value micros ascends lt there read is front told =
      let t = (got tests place lt).0 in
      let here : slice_get tests place ≡ Some t = (got tests place lt).1 in
      let found : test_at tests n ≡ Some t = sym there ∙ here in
      let number : t.number ≡ n = eqb-true t.number n (find_passes (λ (x : PlanTest). x.number == n) tests t found) in
      let had : old ≡ micros_of n front =
      read ∙ ap (λ (ms : List ℕ). get_or ms place old) told ∙ get_or-map (λ (x : PlanTest). micros_of x.number front) tests place t old lt
      ∙ ap (λ (x : PlanTest). micros_of x.number front) (get_or_from_slice_get tests place t t here)
      ∙ ap (λ (k : ℕ). micros_of k front) number in
      let mine : micros_by n (End n a w seen) ≡ seen.micros = ap (λ (b : Bool). if b then seen.micros else 0) (itself n) in
      let has : value ≡ micros_of n (front ++ End n a w seen ∷ []) =
      is ∙ ap (λ (k : ℕ). min (min (k + seen.micros) (2 ^ 64 - 1)) (10 ^ 18)) had ∙ micros_added n seen.micros front (End n a w seen) mine in
      ap (λ (ms : List ℕ). slice_set ms place value) told
      ∙ ap (λ (v : ℕ). slice_set (micros_each tests front) place v) has
      ∙ sym (each_set 1 tests place t front ascends here number)
    where
      itself : (k : ℕ) → (k == k) ≡ true
      itself k = grind (arith, nat_tests)

  -- nothing changes at an End of a test that is not there
  pub notes_unplanned : (tests : List PlanTest) (micros : List ℕ) → test_at tests n ≡ None → NotesEntry tests (End n a w seen) micros micros
  notes_unplanned tests micros none front told = told ∙ sym (each_unplanned tests front none)

-- nothing changes at an entry that is no End
pub notes_other : (tests : List PlanTest) (e : Entry) (micros : List ℕ) → ((n a w : ℕ) (seen : Seen) → e ≡ End n a w seen → ⊥) → NotesEntry tests e micros micros
notes_other tests (Start n a w p) micros other front told = told ∙ sym (each_same tests front (Start n a w p) (λ k. refl))
notes_other tests (End n a w seen) micros other front told = absurd (other n a w seen refl)
notes_other tests (Settle n c) micros other front told = told ∙ sym (each_same tests front (Settle n c) (λ k. refl))
notes_other tests Stop micros other front told = told ∙ sym (each_same tests front Stop (λ k. refl))

-- what is known stays known with more entries
pub knows_more : (plan : PlanParts) (es more : List Entry) (lines : TestLines) → KnowsLines plan es lines → KnowsLines plan (es ++ more) lines
knows_more plan es more lines knows = record {
  within = omega (arith, knows.within, length-append es more);
  count = knows.count;
  micros = knows.micros ∙ ap (λ (front : List Entry). micros_each plan.tests front) (sym (take-append-le lines.read es more knows.within));
}

-- what is known is known of an equal plan and equal entries
pub knows_as : (plan other : PlanParts) (es more : List Entry) (lines : TestLines) → plan ≡ other → es ≡ more → KnowsLines plan es lines → KnowsLines other more lines
knows_as plan other es more lines same said knows =
    subst (λ (p : PlanParts). KnowsLines p more lines) same (subst (λ (xs : List Entry). KnowsLines plan xs lines) said knows)

-- a test with a verdict is one of the plan
pub planned_given : (plan : PlanParts) (es : List Entry) (n : ℕ) (v : Verdict) → verdict_of_test plan es n ≡ Some v → IsSome (test_at plan.tests n)
planned_given plan es n v given = by_test (test_at plan.tests n) given
  where
    by_test : (o : Option PlanTest) → verdict_at plan es o ≡ Some v → IsSome o
    by_test None is = cc
    by_test (Some t) is = refl

-- the line of a test by its verdict, and by the numbers that are known
pub numbered_is : (plan : PlanParts) (es : List Entry) (n place many micros : ℕ) (t : PlanTest) (v : Verdict) → test_at plan.tests n ≡ Some t → verdict_of_test plan es n ≡ Some v → many ≡ length (enabled plan.tests) → micros ≡ micros_of t.number es → numbered_line plan.tests t v (record { place = place; enabled = many; micros = micros }) ≡ test_line plan es place (test_at plan.tests n)
numbered_is plan es n place many micros t v found given count spent =
    let here : verdict_in plan.repeat t es ≡ Some v = sym (ap (λ (o : Option PlanTest). verdict_at plan es o) found) ∙ given in
    ap (λ (k : ℕ). numbered_line plan.tests t v (record { place = place; enabled = k; micros = micros })) count
    ∙ ap (λ (m : ℕ). numbered_line plan.tests t v (record { place = place; enabled = length (enabled plan.tests); micros = m })) spent
    ∙ sym (ap (λ (o : Option Verdict). line_with plan es place t o) here)
    ∙ sym (ap (λ (o : Option PlanTest). test_line plan es place o) found)

-- once all entries are read, the known numbers make the line of the test
pub line_known : (plan : PlanParts) (es : List Entry) (n place at micros : ℕ) (t : PlanTest) (v : Verdict) (tests : List PlanTest) (lines : TestLines) → tests ≡ plan.tests → at < length tests → slice_get tests at ≡ test_at tests n → t ≡ get_or tests at t → KnowsLines plan es lines → lines.read ≡ length es → micros ≡ get_or lines.micros.items at micros → verdict_of_test plan es n ≡ Some v → numbered_line tests t v (record { place = place; enabled = lines.enabled; micros = micros }) ≡ test_line plan es place (test_at plan.tests n)
line_known plan es n place at micros t v tests lines same lt there is knows all stands given =
    let within : at < length plan.tests = subst (λ (ts : List PlanTest). at < length ts) same lt in
    let here : slice_get plan.tests at ≡ test_at plan.tests n = subst (λ (ts : List PlanTest). slice_get ts at ≡ test_at ts n) same there in
    let read : t ≡ get_or plan.tests at t = subst (λ (ts : List PlanTest). t ≡ get_or ts at t) same is in
    let found : test_at plan.tests n ≡ Some t = sym here ∙ slice_get_read plan.tests (length plan.tests) at t refl within read in
    let told : lines.micros.items ≡ micros_each plan.tests es =
    knows.micros
    ∙ ap (λ (k : ℕ). micros_each plan.tests (take k es)) all
    ∙ ap (λ (xs : List Entry). micros_each plan.tests xs) (take_all (length es) es (omega arith)) in
    let spent : micros ≡ micros_of t.number es =
    stands
    ∙ ap (λ (ms : List ℕ). get_or ms at micros) told
    ∙ get_or-map (λ (x : PlanTest). micros_of x.number es) plan.tests at t micros within
    ∙ ap (λ (x : PlanTest). micros_of x.number es) (sym read) in
    ap (λ (ts : List PlanTest). numbered_line ts t v (record { place = place; enabled = lines.enabled; micros = micros })) same
    ∙ numbered_is plan es n place lines.enabled micros t v found given knows.count spent
