-- A test that is final gets no further entry.
use Rattle.std.proofs.Common.{◌≡◌, ◌∙◌, sym, ap, subst, refl, ℕ, Bool, true, false, cond, List, [], ◌∷◌, ◌++◌, All, inl, inr}
use Rattle.std.specs.Prelude.{◌&&◌, ◌||◌, ◌==◌, ◌⊎◌, not, filter, is_some, IfSome, Option, Some, None}
use Rattle.std.specs.List.{list_any}
use Rattle.std.proofs.lemmas.Bool.{and_from, and_parts, cases_Bool, eqb-true, false_from_ne_true, or_from, or_parts, true≢false}
use Rattle.std.proofs.lemmas.List.Folds.{list_any-append}
use Rattle.ct_alloc.specs.declared.placement.Placement.{Placement}
use Rattle.ct_verdict.specs.declared.verdict.Cause.{Cause}
use Rattle.ct_verdict.specs.declared.verdict.Verdict.{Verdict}
use Rattle.ct_verdict.specs.declared.verdict.Verdict.TheVariants.{Disabled}
use Rattle.ct_history.specs.declared.plan.PlanTest.{PlanTest}
use Rattle.ct_history.specs.declared.plan.PlanParts.{PlanParts}
use Rattle.ct_history.specs.declared.history.Entry.{Entry}
use Rattle.ct_history.specs.declared.history.Entry.TheVariants.{Start, End, Settle, Stop}
use Rattle.ct_history.specs.Plan.{test_at}
use Rattle.ct_history.specs.History.{Running, attempts_of, holds_start, is_open_in, open_starts}
use Rattle.ct_history.specs.Verdicts.{attempted_verdict, is_final_in, is_over, last_of_list, settled_cause, settled_or, verdict_at, verdict_in, verdict_of_test}
use Rattle.ct_history.specs.Legal.{are_allowed_behind, is_allowed, is_allowed_so_far, is_legal, is_stop_due, settles}
use Rattle.ct_history.proofs.ApartLemmas.{allowed_induction}
use Rattle.ct_history.proofs.FinalLemmas.{open_by_hold, settled-snoc, verdict_stays}
use Rattle.ct_history.proofs.LegalLemmas.{allowed-snoc}
use Rattle.ct_history.proofs.MayLemmas.{pending-parts, settles-parts}
use Rattle.ct_history.proofs.OpenLemmas.{is_of, open_starts-end, open_starts-snoc, opens_settle, opens_stop}
use Rattle.ct_laws.specs.Places.{LeaveAlone, is_of_test}
use Rattle.ct_laws.proofs.CutLemmas.{cut}
use Rattle.ct_laws.proofs.PlaceLemmas.{own_number, start_parts, waited}

none_filter : (p q : Running → Bool) (rs : List Running) → list_any p rs ≡ false → list_any p (filter q rs) ≡ false
none_filter p q [] none = refl
none_filter p q (r ∷ rs) none =
    let both = or_parts (p r) (list_any p rs) none in
    let rest = none_filter p q rs both.1 in
    elim (cases_Bool (q r)) [
      | inl kept ↦ ap (λ b. list_any p (cond b (r ∷ filter q rs) (filter q rs))) kept ∙ or_from (p r) (list_any p (filter q rs)) both.0 rest
      | inr gone ↦ ap (λ b. list_any p (cond b (r ∷ filter q rs) (filter q rs))) gone ∙ rest
    ]

-- why a test is final: it is disabled, or settled, or has no open start
final_why : (disabled : Bool) (settled : Option Cause) (opens over : Bool) (last : Option Verdict) → is_some (cond disabled (Some Disabled) (settled_or settled (cond (not opens && over) last None))) ≡ true → (disabled ≡ true) ⊎ ((is_some settled ≡ true) ⊎ (opens ≡ false))
final_why true settled opens over last is = inl refl
final_why false (Some cause) opens over last is = inr (inl refl)
final_why false None false over last is = inr (inr refl)
final_why false None true over last is = cc

final_settled : (disabled : Bool) (settled : Option Cause) (attempted : Option Verdict) → is_some settled ≡ true → is_some (cond disabled (Some Disabled) (settled_or settled attempted)) ≡ true
final_settled true settled attempted is = refl
final_settled false None attempted is = cc
final_settled false (Some cause) attempted is = refl

module _ (plan : PlanParts) (t : PlanTest) (at : test_at plan.tests t.number ≡ Some t) where
  abbrev IsFinal : List Entry → Type 0
  IsFinal es = is_final_in plan.repeat t es ≡ true

  abbrev IsClosed : List Entry → Type 0
  IsClosed es = is_open_in t.number es ≡ false

  final_disabled : (es : List Entry) → t.disabled ≡ true → IsFinal es
  final_disabled es off = ap (λ d. is_some (cond d (Some Disabled) (settled_or (settled_cause t.number es) (attempted_verdict plan.repeat t es)))) off

  -- a test that was looked up by the number of the final one is that one
  same_test : (n : ℕ) (u : PlanTest) → test_at plan.tests n ≡ Some u → (n == t.number) ≡ true → u ≡ t
  same_test n u found same =
      let both : Some u ≡ Some t = sym found ∙ ap (test_at plan.tests) (eqb-true n t.number same) ∙ at in
      (cc)

  -- an entry of a pending test is not of a final one
  other_test : (es : List Entry) (n : ℕ) (u : PlanTest) → test_at plan.tests n ≡ Some u → is_final_in plan.repeat u es ≡ false → IsFinal es → (n == t.number) ≡ false
  other_test es n u found unfinished final =
      false_from_ne_true (n == t.number)
      (λ same. true≢false (sym final ∙ ap (λ (x : PlanTest). is_final_in plan.repeat x es) (sym (same_test n u found same)) ∙ unfinished))

  start_other : (es : List Entry) (n a w : ℕ) (p : Option Placement) → is_allowed plan es (Start n a w p) ≡ true → IsFinal es → (n == t.number) ≡ false
  start_other es n a w p allowed final =
      let begins = (start_parts plan es n a w p allowed).begins in
      other_test es n begins.test begins.found (pending-parts plan begins.test es begins.may.pending).unfinished final

  settle_parts : (es : List Entry) (n : ℕ) (c : Cause) → is_allowed plan es (Settle n c) ≡ true → settles plan es c (test_at plan.tests n) ≡ true
  settle_parts es n c allowed = (and_parts (not (is_stop_due plan es)) (settles plan es c (test_at plan.tests n)) allowed).1

  -- a final test that is closed stays closed
  closed_stays : (es : List Entry) (e : Entry) → is_allowed plan es e ≡ true → IsFinal es → IsClosed es → IsClosed (es ++ e ∷ [])
  closed_stays es (Start n a w p) allowed final closed =
      let p' = λ (r : Running). r.test == t.number in
      let run : Running = record { test = n; attempt = a; worker = w; placement = p } in
      ap (list_any p') (open_starts-snoc es (Start n a w p) refl)
      ∙ list_any-append p' (open_starts es) (run ∷ [])
      ∙ or_from (is_open_in t.number es) (n == t.number || false) closed (or_from (n == t.number) false (start_other es n a w p allowed final) refl)
  closed_stays es (End n a w s) allowed final closed =
      ap (list_any (λ (r : Running). r.test == t.number)) (open_starts-end es n a w s)
      ∙ none_filter (λ (r : Running). r.test == t.number) (λ r. not (is_of n a r)) (open_starts es) closed
  closed_stays es (Settle n c) allowed final closed = ap (list_any (λ (r : Running). r.test == t.number)) (opens_settle es n c) ∙ closed
  closed_stays es Stop allowed final closed = ap (list_any (λ (r : Running). r.test == t.number)) (opens_stop es) ∙ closed

  not_settled : (es : List Entry) → is_final_in plan.repeat t es ≡ false → is_some (settled_cause t.number es) ≡ true → ⊥
  not_settled es unfinished is =
      true≢false (sym (final_settled t.disabled (settled_cause t.number es) (attempted_verdict plan.repeat t es) is) ∙ unfinished)

  -- an entry that settles a test leaves it closed
  closed_settled : (es : List Entry) (e : Entry) → is_allowed plan es e ≡ true → is_final_in plan.repeat t es ≡ false → is_some (settled_cause t.number (es ++ e ∷ [])) ≡ true → IsClosed (es ++ e ∷ [])
  closed_settled es (Start n a w p) allowed unfinished is = absurd (not_settled es unfinished (sym (ap is_some (settled-snoc t.number es (Start n a w p) refl)) ∙ is))
  closed_settled es (End n a w s) allowed unfinished is = absurd (not_settled es unfinished (sym (ap is_some (settled-snoc t.number es (End n a w s) refl)) ∙ is))
  closed_settled es (Settle n c) allowed unfinished is = elim (cases_Bool (n == t.number)) [
    | inl same ↦
        let parts = settles-parts plan es c (test_at plan.tests n) (settle_parts es n c allowed) in
        let closed = (pending-parts plan parts.test es parts.pending).closed in
        ap (list_any (λ (r : Running). r.test == t.number)) (opens_settle es n c)
        ∙ subst (λ (u : PlanTest). is_open_in u.number es ≡ false) (same_test n parts.test parts.found same) closed
    | inr other ↦ absurd (not_settled es unfinished (sym (ap is_some (settled-snoc t.number es (Settle n c) (ap (λ b. cond b (Some c) None) other))) ∙ is))
  ]
  closed_settled es Stop allowed unfinished is = absurd (not_settled es unfinished (sym (ap is_some (settled-snoc t.number es Stop refl)) ∙ is))

  closed-snoc : (es : List Entry) (e : Entry) → is_allowed plan es e ≡ true → (IsFinal es → IsClosed es) → IsFinal (es ++ e ∷ []) → IsClosed (es ++ e ∷ [])
  closed-snoc es e allowed known final = elim (cases_Bool (is_final_in plan.repeat t es)) [
    | inl before ↦ closed_stays es e allowed before (known before)
    | inr unfinished ↦
        let now = es ++ e ∷ [] in
        let attempts = attempts_of t.number t.rules now in
        elim (final_why t.disabled (settled_cause t.number now) (is_open_in t.number now) (is_over plan.repeat attempts) (last_of_list attempts) final) [
          | inl off ↦ absurd (true≢false (sym (final_disabled es off) ∙ unfinished))
          | inr (inl settled) ↦ closed_settled es e allowed unfinished settled
          | inr (inr closed) ↦ closed
        ]
  ]

  -- a final test has no open start
  final_closed : (es : List Entry) → is_allowed_so_far plan es ≡ true → IsFinal es → IsClosed es
  final_closed es so_far = allowed_induction plan (λ xs. IsFinal xs → IsClosed xs) closed-snoc (λ final. refl) es so_far

  -- an allowed entry is not of a final test
  entry_other : (es : List Entry) (e : Entry) → is_allowed_so_far plan es ≡ true → is_allowed plan es e ≡ true → IsFinal es → is_of_test t.number e ≡ false
  entry_other es (Start n a w p) so_far allowed final = start_other es n a w p allowed final
  entry_other es (End n a w s) so_far allowed final =
      let held = (and_parts (not (is_stop_due plan es)) (holds_start n a w es) allowed).1 in
      let opens = open_by_hold n a w (open_starts es) held in
      false_from_ne_true (n == t.number)
      (λ same. true≢false (sym (subst (λ (k : ℕ). is_open_in k es ≡ true) (eqb-true n t.number same) opens) ∙ final_closed es so_far final))
  entry_other es (Settle n c) so_far allowed final =
      let parts = settles-parts plan es c (test_at plan.tests n) (settle_parts es n c allowed) in
      other_test es n parts.test parts.found (pending-parts plan parts.test es parts.pending).unfinished final
  entry_other es Stop so_far allowed final = refl

  -- behind entries that make a test final there is none of it
  over_behind : (es rest : List Entry) (v : Verdict) → is_allowed_so_far plan es ≡ true → are_allowed_behind plan es rest ≡ true → verdict_in plan.repeat t es ≡ Some v → list_any (is_of_test t.number) rest ≡ false
  over_behind es [] v so_far behind is = refl
  over_behind es (e ∷ rest) v so_far behind is =
      let both = and_parts (is_allowed plan es e) (are_allowed_behind plan (es ++ e ∷ []) rest) behind in
      or_from (is_of_test t.number e) (list_any (is_of_test t.number) rest) (entry_other es e so_far both.0 (ap is_some is))
      (over_behind (es ++ e ∷ []) rest v (allowed-snoc plan es e so_far both.0) both.1 (verdict_stays plan t at es v is e both.0))

pub there_is : {A : Type 0} (found : Option A) → is_some found ≡ true → (x : A) × (found ≡ Some x)
there_is None is = cc
there_is (Some x) is = (x, refl)

pub looked_up : (plan : PlanParts) (es : List Entry) (found : Option PlanTest) → is_some (verdict_at plan es found) ≡ true → (t : PlanTest) × (found ≡ Some t)
looked_up plan es None is = cc
looked_up plan es (Some t) is = (t, refl)

-- where the test with a number is final, there is none of it behind
over_number : (plan : PlanParts) (es rest : List Entry) (n : ℕ) → is_allowed_so_far plan es ≡ true → are_allowed_behind plan es rest ≡ true → is_some (verdict_of_test plan es n) ≡ true → list_any (is_of_test n) rest ≡ false
over_number plan es rest n so_far behind final =
    let found = looked_up plan es (test_at plan.tests n) final in
    let t = found.0 in
    let number = own_number plan n t found.1 in
    let at : test_at plan.tests t.number ≡ Some t = ap (test_at plan.tests) number ∙ found.1 in
    let has = there_is (verdict_in plan.repeat t es) (subst (λ (o : Option PlanTest). is_some (verdict_at plan es o) ≡ true) found.1 final) in
    subst (λ (k : ℕ). list_any (is_of_test k) rest ≡ false) number (over_behind plan t at es rest has.0 so_far behind has.1)

left_alone : (plan : PlanParts) (rest : List Entry) (found : Option PlanTest) (t : PlanTest) → found ≡ Some t → All (λ other. list_any (is_of_test other) rest ≡ false) t.before → IfSome found (λ (u : PlanTest). All (λ other. list_any (is_of_test other) rest ≡ false) u.before)
left_alone plan rest found t is all = subst (λ (o : Option PlanTest). IfSome o (λ (u : PlanTest). All (λ other. list_any (is_of_test other) rest ≡ false) u.before)) (sym is) all

-- behind a Start there is no entry of a test that it waits for
pub over : (plan : PlanParts) (front rest : List Entry) (n a w : ℕ) (p : Option Placement) → is_legal plan (front ++ Start n a w p ∷ rest) ≡ true → LeaveAlone plan n rest
over plan front rest n a w p legal =
    let at = cut plan front (Start n a w p) rest legal in
    let has = waited plan front rest n a w p legal in
    let behind : are_allowed_behind plan front (Start n a w p ∷ rest) ≡ true = and_from (is_allowed plan front (Start n a w p)) (are_allowed_behind plan (front ++ Start n a w p ∷ []) rest) at.allowed at.behind in
    left_alone plan rest (test_at plan.tests n) has.test has.is
    (λ k d less. (or_parts _ _ (over_number plan front (Start n a w p ∷ rest) _ at.so_far behind (has.final k d less))).1)
