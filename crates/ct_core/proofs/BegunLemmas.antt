-- A test that has begun was ready at its first Start, and stays ready.
use Rattle.std.proofs.Common.{◌≡◌, ◌∙◌, sym, ap, subst, Bool, true, false, ℕ, ◌<◌, List, [], ◌∷◌, ◌++◌, length, refl, arith, inl, inr}
use Rattle.std.specs.Prelude.{Option, Some, None, is_some, is_none, ◌&&◌, ◌||◌, ◌==◌, cond, find, nat_lt}
use Rattle.std.specs.List.{list_any}
use Rattle.std.proofs.lemmas.Bool.{and_parts, and_from, cases_Bool, or_right, lt-ltb}
use Rattle.std.proofs.lemmas.Bool.Decides.{nat_tests}
use Rattle.ct_verdict.specs.declared.verdict.Verdict.{Verdict}
use Rattle.ct_history.specs.declared.plan.PlanTest.{PlanTest}
use Rattle.ct_history.specs.declared.plan.PlanParts.{PlanParts}
use Rattle.ct_history.specs.declared.history.Entry.{Entry}
use Rattle.ct_history.specs.declared.history.Entry.TheVariants.{Start, End, Settle, Stop}
use Rattle.ct_history.specs.Plan.{test_at}
use Rattle.ct_history.specs.History.{Running, attempts_of, open_starts, open_start_of_test}
use Rattle.ct_history.specs.Verdicts.{verdict_at, verdict_of_test}
use Rattle.ct_history.specs.Rules.{first_unpassed, follows_finals, is_ready}
use Rattle.ct_history.specs.Legal.{is_allowed, is_allowed_so_far}
use Rattle.ct_history.proofs.FinalLemmas.{verdict_stays, attempts-snoc}
use Rattle.ct_history.proofs.OtherLemmas.{is_about, attempts_other}
use Rattle.ct_history.proofs.OpenLemmas.{opens_settle}
use Rattle.ct_core.proofs.AllowedLemmas.{allowed_induction, end_holds, number_at, start_begins}
use Rattle.ct_core.proofs.PredecessorLemmas.{all_stay, passed_stay}
use Rattle.ct_core.proofs.StateLemmas.{open_other}

-- an attempt of the test is open, or one has ended
abbrev pub has_begun : PlanTest → List Entry → Bool
has_begun t entries = is_some (open_start_of_test t.number entries) || nat_lt 0 (length (attempts_of t.number t.rules entries))

-- the verdict of the test with a number stays when an allowed entry follows
pub verdict_kept : (plan : PlanParts) (es : List Entry) (e : Entry) → is_allowed plan es e ≡ true → (j : ℕ) (v : Verdict) → verdict_of_test plan es j ≡ Some v → verdict_of_test plan (es ++ e ∷ []) j ≡ Some v
verdict_kept plan es e allowed j v is = by_test (test_at plan.tests j) refl is
  where
    by_test : (o : Option PlanTest) → test_at plan.tests j ≡ o → verdict_at plan es o ≡ Some v → verdict_at plan (es ++ e ∷ []) o ≡ Some v
    by_test None found has = cc
    by_test (Some u) found has = verdict_stays plan u (ap (λ (m : ℕ). test_at plan.tests m) (number_at plan.tests j u found) ∙ found) es v has e allowed

-- a ready test stays ready when an allowed entry follows
pub ready_kept : (plan : PlanParts) (es : List Entry) (e : Entry) → is_allowed plan es e ≡ true → (t : PlanTest) → is_ready plan t es ≡ true → is_ready plan t (es ++ e ∷ []) ≡ true
ready_kept plan es e allowed t ready =
    let more = es ++ e ∷ [] in
    let most = and_parts (follows_finals plan t es && is_none (first_unpassed plan t es)) (is_none t.fixed) ready in
    let both = and_parts (follows_finals plan t es) (is_none (first_unpassed plan t es)) most.0 in
    and_from (follows_finals plan t more && is_none (first_unpassed plan t more)) (is_none t.fixed)
    (and_from (follows_finals plan t more) (is_none (first_unpassed plan t more))
    (all_stay (verdict_of_test plan es) (verdict_of_test plan more) (verdict_kept plan es e allowed) t.before both.0)
    (passed_stay (verdict_of_test plan es) (verdict_of_test plan more) (verdict_kept plan es e allowed) t.setups both.1))
    most.1

-- if a start is held, its test has an open start
held_found : (n a w : ℕ) (rs : List Running) → list_any (λ (r : Running). r.test == n && r.attempt == a && r.worker == w) rs ≡ true → is_some (find (λ (r : Running). r.test == n) rs) ≡ true
held_found n a w [] holds = cc
held_found n a w (r ∷ rs) holds = elim (cases_Bool (r.test == n)) [
  | inl here ↦ ap (λ (b : Bool). is_some (cond b (Some r) (find (λ (q : Running). q.test == n) rs))) here
  | inr other ↦
      ap (λ (b : Bool). is_some (cond b (Some r) (find (λ (q : Running). q.test == n) rs))) other
      ∙ held_found n a w rs (sym (ap (λ (b : Bool). b && r.attempt == a && r.worker == w || list_any (λ (q : Running). q.test == n && q.attempt == a && q.worker == w) rs) other) ∙ holds)
]

module _ (plan : PlanParts) (t : PlanTest) (found : test_at plan.tests t.number ≡ Some t) where
  abbrev IsReadyOnce : List Entry → Type 0
  IsReadyOnce es = has_begun t es ≡ true → is_ready plan t es ≡ true

  -- if the open start and the attempts stay, whether the test has begun stays
  begun_same : (es more : List Entry) → open_start_of_test t.number more ≡ open_start_of_test t.number es → attempts_of t.number t.rules more ≡ attempts_of t.number t.rules es → has_begun t more ≡ has_begun t es
  begun_same es more opens attempts =
      ap (λ (o : Option Running). is_some o || nat_lt 0 (length (attempts_of t.number t.rules more))) opens
      ∙ ap (λ (vs : List Verdict). is_some (open_start_of_test t.number es) || nat_lt 0 (length vs)) attempts

  begun_other : (es : List Entry) (e : Entry) → is_about t.number e ≡ false → has_begun t (es ++ e ∷ []) ≡ has_begun t es
  begun_other es e other = begun_same es (es ++ e ∷ []) (open_other t.number es e other) (attempts_other t.number t.rules es e other)

  ready-snoc : (es : List Entry) (e : Entry) → is_allowed plan es e ≡ true → IsReadyOnce es → IsReadyOnce (es ++ e ∷ [])
  ready-snoc es (Start n a w p) allowed before begun = elim (cases_Bool (n == t.number)) [
    | inl here ↦
        let begins = start_begins plan es n a w p allowed in
        let this : n ≡ t.number = grind (arith, nat_tests) in
        let both : Some begins.test ≡ Some t = sym begins.found ∙ ap (λ (m : ℕ). test_at plan.tests m) this ∙ found in
        let same : begins.test ≡ t = cc in
        ready_kept plan es (Start n a w p) allowed t (subst (λ (u : PlanTest). is_ready plan u es ≡ true) same begins.may.ready)
    | inr other ↦ ready_kept plan es (Start n a w p) allowed t (before (sym (begun_other es (Start n a w p) other) ∙ begun))
  ]
  ready-snoc es (End n a w s) allowed before begun = elim (cases_Bool (n == t.number)) [
    | inl here ↦
        let this : n ≡ t.number = grind (arith, nat_tests) in
        let open_one : is_some (open_start_of_test t.number es) ≡ true = ap (λ (m : ℕ). is_some (open_start_of_test m es)) (sym this) ∙ held_found n a w (open_starts es) (end_holds plan es n a w s allowed) in
        ready_kept plan es (End n a w s) allowed t (before (ap (λ (b : Bool). b || nat_lt 0 (length (attempts_of t.number t.rules es))) open_one))
    | inr other ↦ ready_kept plan es (End n a w s) allowed t (before (sym (begun_other es (End n a w s) other) ∙ begun))
  ]
  ready-snoc es (Settle n c) allowed before begun =
      let same = begun_same es (es ++ Settle n c ∷ []) (ap (λ (rs : List Running). find (λ (r : Running). r.test == t.number) rs) (opens_settle es n c)) (attempts-snoc t.number t.rules es (Settle n c) refl) in
      ready_kept plan es (Settle n c) allowed t (before (sym same ∙ begun))
  ready-snoc es Stop allowed before begun = ready_kept plan es Stop allowed t (before (sym (begun_other es Stop refl) ∙ begun))

  -- a test that has begun is ready
  pub begun_is_ready : (es : List Entry) → is_allowed_so_far plan es ≡ true → has_begun t es ≡ true → is_ready plan t es ≡ true
  begun_is_ready es so_far = allowed_induction plan IsReadyOnce ready-snoc (λ begun. cc) es so_far

module _ (plan : PlanParts) (es : List Entry) (so_far : is_allowed_so_far plan es ≡ true) (n : ℕ) (t : PlanTest) (found : test_at plan.tests n ≡ Some t) where
  found_itself : test_at plan.tests t.number ≡ Some t
  found_itself = ap (λ (m : ℕ). test_at plan.tests m) (number_at plan.tests n t found) ∙ found

  -- an open test is ready
  pub open_is_ready : (r : Running) → open_start_of_test n es ≡ Some r → is_ready plan t es ≡ true
  open_is_ready r is =
      let opens : is_some (open_start_of_test t.number es) ≡ true = ap (λ (m : ℕ). is_some (open_start_of_test m es)) (number_at plan.tests n t found) ∙ ap is_some is in
      begun_is_ready plan t found_itself es so_far (ap (λ (b : Bool). b || nat_lt 0 (length (attempts_of t.number t.rules es))) opens)

  -- a test of which an attempt has ended is ready
  pub tried_is_ready : 0 < length (attempts_of t.number t.rules es) → is_ready plan t es ≡ true
  tried_is_ready tried = begun_is_ready plan t found_itself es so_far (or_right (is_some (open_start_of_test t.number es)) (nat_lt 0 (length (attempts_of t.number t.rules es))) (lt-ltb 0 (length (attempts_of t.number t.rules es)) tried))
