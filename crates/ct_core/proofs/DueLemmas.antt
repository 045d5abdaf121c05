-- When a Stop is due behind an entry about one test.
use Rattle.std.proofs.Common.{◌≡◌, ◌∙◌, sym, ap, Bool, true, false, ℕ, ◌+◌, List, [], ◌∷◌, ◌++◌, refl, inl, inr}
use Rattle.std.specs.Prelude.{Option, Some, None, length, not, ◌&&◌, ◌||◌, if◌then◌else◌}
use Rattle.std.proofs.lemmas.Bool.{and_parts, cases_Bool, not-true, or_left, or_right, true≢false}
use Rattle.std.proofs.Math.Bool.{and-false}
use Rattle.ct_base.proofs.TruthLemmas.{same_truth}
use Rattle.ct_verdict.specs.declared.attempt.Seen.{Seen}
use Rattle.ct_verdict.specs.declared.verdict.Cause.{Cause}
use Rattle.ct_verdict.specs.declared.verdict.Verdict.{Verdict}
use Rattle.ct_verdict.specs.Verdict.{is_failing_cause, verdict_of}
use Rattle.ct_history.specs.declared.plan.PlanTest.{PlanTest}
use Rattle.ct_history.specs.declared.plan.PlanParts.{PlanParts}
use Rattle.ct_history.specs.declared.history.Entry.{Entry}
use Rattle.ct_history.specs.declared.history.Entry.TheVariants.{Start, End, Settle, Stop}
use Rattle.ct_history.specs.Plan.{IsSound, test_at}
use Rattle.ct_history.specs.History.{attempts_of, has_stop, holds_start, is_busy_in, is_stop, open_starts}
use Rattle.ct_history.specs.Verdicts.{is_failing_in, verdict_at, verdict_in, verdict_of_test}
use Rattle.ct_history.specs.Rules.{is_pending}
use Rattle.ct_history.specs.Legal.{has_failing, is_allowed, is_allowed_so_far, is_legal, is_stop_due, settles, starts}
use Rattle.ct_history.proofs.FailingLemmas.{any_one, holds_at}
use Rattle.ct_history.proofs.LegalLemmas.{due-snoc, legal_allowed, legal_not_due, stop_failed, stop-snoc, failing-nil}
use Rattle.ct_history.proofs.OpenLemmas.{opens_stop}
use Rattle.ct_history.proofs.OtherLemmas.{verdict_in_other}
use Rattle.ct_core.specs.Standing.{states_of, verdict_of_state}
use Rattle.ct_core.specs.Core.{with_due_stop}
use Rattle.ct_core.proofs.AllowedLemmas.{IsAboutOnly, about_end, about_settle, allowed_induction}
use Rattle.ct_core.proofs.KeptLemmas.{stop_stays}
use Rattle.ct_core.proofs.StateLemmas.{pending_other, state_after, verdict_ended, verdict_other, verdict_settled}
use Rattle.ct_core.proofs.StandingLemmas.{states_stopped}

-- if an allowed entry is no Stop, no Stop was due in front of it
not_due_before : (plan : PlanParts) (es : List Entry) (e : Entry) → is_allowed plan es e ≡ true → is_stop e ≡ false → is_stop_due plan es ≡ false
not_due_before plan es (Start n a w p) allowed plain =
    let most = and_parts (not (is_stop_due plan es) && starts plan es a p (test_at plan.tests n)) (not (is_busy_in w es)) allowed in
    not-true (is_stop_due plan es) (and_parts (not (is_stop_due plan es)) (starts plan es a p (test_at plan.tests n)) most.0).0
not_due_before plan es (End n a w s) allowed plain = not-true (is_stop_due plan es) (and_parts (not (is_stop_due plan es)) (holds_start n a w es) allowed).0
not_due_before plan es (Settle n c) allowed plain = not-true (is_stop_due plan es) (and_parts (not (is_stop_due plan es)) (settles plan es c (test_at plan.tests n)) allowed).0
not_due_before plan es Stop allowed plain = cc

module _ (plan : PlanParts) (on : plan.stop_on_failure ≡ true) where
  -- if some test has failed, there is a Stop or one is due
  abbrev IsStopped : List Entry → Type 0
  IsStopped es = has_failing plan es ≡ true → is_stop_due plan es ≡ false → has_stop es ≡ true

  stopped-snoc : (es : List Entry) (e : Entry) → is_allowed plan es e ≡ true → IsStopped es → IsStopped (es ++ e ∷ [])
  stopped-snoc es e allowed before failing not_due =
      let was = failed plan.stop_on_failure (has_failing plan (es ++ e ∷ [])) (has_failing plan es) on failing (sym (due-snoc plan es e) ∙ not_due) in
      elim (cases_Bool (is_stop e)) [
        | inl stop ↦ stop-snoc es e ∙ or_right (has_stop es) (is_stop e || false) (or_left (is_stop e) false stop)
        | inr plain ↦ stop-snoc es e ∙ or_left (has_stop es) (is_stop e || false) (before was (not_due_before plan es e allowed plain))
      ]
    where
      failed : (s now then' : Bool) → s ≡ true → now ≡ true → (s && (now && not then')) ≡ false → then' ≡ true
      failed s now true is fails none = refl
      failed true true false is fails none = cc
      failed true false false is fails none = cc
      failed false now false is fails none = cc

  failed_stopped : (es : List Entry) → is_allowed_so_far plan es ≡ true → IsStopped es
  failed_stopped es so_far =
      allowed_induction plan IsStopped stopped-snoc (λ failing not_due. absurd (true≢false (sym failing ∙ failing-nil plan))) es so_far

-- in a plan that stops on failure, a legal history has a failed test exactly if it has a Stop
pub failing_is_stop : (plan : PlanParts) → IsSound plan → (es : List Entry) → is_legal plan es ≡ true → plan.stop_on_failure ≡ true → has_failing plan es ≡ has_stop es
failing_is_stop plan sound es legal on =
    let so_far = legal_allowed plan es legal in
    same_truth (has_failing plan es) (has_stop es) (λ failing. failed_stopped plan on es so_far failing (not-true (is_stop_due plan es) (legal_not_due plan es legal)))
    (λ stop. stop_failed plan sound.numbers es so_far stop)

-- if no test had failed in front of the entry, some test has behind it exactly if this test has
failing_one : (plan : PlanParts) → IsSound plan → (es : List Entry) (e : Entry) (n : ℕ) (t : PlanTest) → IsAboutOnly n e → test_at plan.tests n ≡ Some t → has_failing plan es ≡ false → has_failing plan (es ++ e ∷ []) ≡ is_failing_in (verdict_of_test plan (es ++ e ∷ []) n)
failing_one plan sound es e n t only found none =
    any_one (λ u. is_failing_in (verdict_in plan.repeat u es)) (λ u. is_failing_in (verdict_in plan.repeat u (es ++ e ∷ []))) n
    (λ u other. ap is_failing_in (verdict_in_other plan.repeat u es e (only u.number other))) 1 plan.tests sound.numbers none
    ∙ ap (holds_at (λ u. is_failing_in (verdict_in plan.repeat u (es ++ e ∷ [])))) found
    ∙ sym (ap (λ (o : Option PlanTest). is_failing_in (verdict_at plan (es ++ e ∷ []) o)) found)

-- a Stop is due exactly if the plan stops on failure, the
-- entry's test is then failing, and there is no Stop
pub due_is : (plan : PlanParts) → IsSound plan → (es : List Entry) → is_legal plan es ≡ true → (e : Entry) (n : ℕ) (t : PlanTest) → IsAboutOnly n e → test_at plan.tests n ≡ Some t → is_stop_due plan (es ++ e ∷ []) ≡ (plan.stop_on_failure && is_failing_in (verdict_of_test plan (es ++ e ∷ []) n) && not (has_stop es))
due_is plan sound es legal e n t only found =
    due-snoc plan es e
    ∙ by_tests plan.stop_on_failure (has_failing plan (es ++ e ∷ [])) (has_failing plan es) (is_failing_in (verdict_of_test plan (es ++ e ∷ []) n)) (has_stop es)
    (λ on. failing_is_stop plan sound es legal on) (λ none. failing_one plan sound es e n t only found none)
  where
    by_tests : (s now then' fails stop : Bool) → (s ≡ true → then' ≡ stop) → (then' ≡ false → now ≡ fails) → (s && (now && not then')) ≡ (s && fails && not stop)
    by_tests false now then' fails stop same one = refl
    by_tests true now then' fails true same one = ap (λ (b : Bool). now && not b) (same refl) ∙ and-false now ∙ sym (and-false fails)
    by_tests true now then' fails false same one = ap (λ (b : Bool). now && not b) (same refl) ∙ ap (λ (b : Bool). b && true) (one (same refl))

-- behind an entry that gives its test no verdict no Stop is due
pub none_due : (plan : PlanParts) → IsSound plan → (es : List Entry) → is_legal plan es ≡ true → (e : Entry) (n : ℕ) (t : PlanTest) → IsAboutOnly n e → test_at plan.tests n ≡ Some t → verdict_of_test plan (es ++ e ∷ []) n ≡ None → is_stop_due plan (es ++ e ∷ []) ≡ false
none_due plan sound es legal e n t only found none =
    due_is plan sound es legal e n t only found
    ∙ ap (λ (o : Option Verdict). plan.stop_on_failure && is_failing_in o && not (has_stop es)) none
    ∙ never plan.stop_on_failure (not (has_stop es))
  where
    never : (a b : Bool) → (a && false && b) ≡ false
    never true b = refl
    never false b = refl

-- whether a Stop is due behind an End and behind a Settle, by the test's state behind the entry
module _ (plan : PlanParts) (sound : IsSound plan) (es : List Entry) (legal : is_legal plan es ≡ true) (n : ℕ) (t : PlanTest) (found : test_at plan.tests n ≡ Some t) where
  pub end_due : (a w : ℕ) (s : Seen) → holds_start n a w es ≡ true → is_stop_due plan (es ++ End n a w s ∷ []) ≡ (plan.stop_on_failure && is_failing_in (verdict_of_state (state_after plan.repeat (length (attempts_of t.number t.rules es) + 1) (verdict_of t.rules s))) && not (has_stop es))
  end_due a w s holds =
      due_is plan sound es legal (End n a w s) n t (about_end n a w s) found
      ∙ ap (λ (o : Option Verdict). plan.stop_on_failure && is_failing_in o && not (has_stop es)) (verdict_ended plan es n t found (legal_allowed plan es legal) a w s holds)

  pub settle_due : (c : Cause) → is_pending plan t es ≡ true → is_stop_due plan (es ++ Settle n c ∷ []) ≡ (plan.stop_on_failure && is_failing_cause c && not (has_stop es))
  settle_due c pending =
      due_is plan sound es legal (Settle n c) n t (about_settle n c) found
      ∙ ap (λ (o : Option Verdict). plan.stop_on_failure && is_failing_in o && not (has_stop es)) (verdict_settled plan es n t found c pending)

-- the tests stand the same with a due Stop and without it
module _ (plan : PlanParts) (es : List Entry) where
  same_with_stop : {A : Type 0} (f : List Entry → A) → f (es ++ Stop ∷ []) ≡ f es → f (with_due_stop plan es) ≡ f es
  same_with_stop f same = by_due (is_stop_due plan es)
    where
      by_due : (b : Bool) → f (if b then es ++ Stop ∷ [] else es) ≡ f es
      by_due true = same
      by_due false = refl

  pub states_with_stop : states_of plan (with_due_stop plan es) ≡ states_of plan es
  states_with_stop = same_with_stop (states_of plan) (states_stopped plan es)

  pub opens_with_stop : open_starts (with_due_stop plan es) ≡ open_starts es
  opens_with_stop = same_with_stop open_starts (opens_stop es)

  pub verdict_with_stop : (n : ℕ) → verdict_of_test plan (with_due_stop plan es) n ≡ verdict_of_test plan es n
  verdict_with_stop n = same_with_stop (λ xs. verdict_of_test plan xs n) (verdict_other plan es Stop n refl)

  pub pending_with_stop : (t : PlanTest) → is_pending plan t (with_due_stop plan es) ≡ is_pending plan t es
  pending_with_stop t = same_with_stop (λ xs. is_pending plan t xs) (pending_other plan t es Stop refl)

  -- with the due Stop there is a Stop exactly if there was one before, or one was due behind the entry
  pub stop_with_stop : (e : Entry) → is_stop e ≡ false → has_stop (with_due_stop plan (es ++ e ∷ [])) ≡ (has_stop es || is_stop_due plan (es ++ e ∷ []))
  stop_with_stop e plain = by_due (is_stop_due plan (es ++ e ∷ []))
    where
      before : has_stop (es ++ e ∷ []) ≡ has_stop es
      before = stop_stays es e plain

      by_due : (b : Bool) → has_stop (if b then (es ++ e ∷ []) ++ Stop ∷ [] else es ++ e ∷ []) ≡ (has_stop es || b)
      by_due true = stop-snoc (es ++ e ∷ []) Stop ∙ ap (λ (b : Bool). b || (true || false)) before
      by_due false = before ∙ or_one (has_stop es)
        where
          or_one : (b : Bool) → b ≡ (b || false)
          or_one true = refl
          or_one false = refl
