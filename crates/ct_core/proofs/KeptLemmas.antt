-- Which entry is allowed next, and that a legal history stays legal with it.
use Rattle.std.proofs.Common.{◌≡◌, ◌∙◌, sym, ap, subst, Bool, true, false, ℕ, ◌+◌, ◌≤◌, List, [], ◌∷◌, ◌++◌, length, refl, arith, length-append, inl, inr}
use Rattle.std.specs.Prelude.{Option, Some, None, map, not, ◌&&◌, ◌||◌, if◌then◌else◌}
use Rattle.std.proofs.Math.Bool.{or-false, or-true}
use Rattle.std.proofs.lemmas.Bool.{and_from, cases_Bool, false_from_ne_true, true≢false, eq-eqb}
use Rattle.std.proofs.lemmas.List.{append-nil}
use Rattle.ct_alloc.specs.declared.placement.Placement.{Placement}
use Rattle.ct_verdict.specs.declared.attempt.Seen.{Seen}
use Rattle.ct_verdict.specs.declared.verdict.Cause.{Cause}
use Rattle.ct_history.specs.declared.plan.PlanTest.{PlanTest}
use Rattle.ct_history.specs.declared.plan.PlanParts.{PlanParts}
use Rattle.ct_history.specs.declared.history.Entry.{Entry}
use Rattle.ct_history.specs.declared.history.Entry.TheVariants as Is
use Rattle.ct_history.specs.Plan.{IsAscendingFrom, test_at}
use Rattle.ct_history.specs.History.{Running, attempts_of, has_stop, holds_start, is_busy_in, is_stop, open_starts}
use Rattle.ct_history.specs.Rules.{may_start, may_start_at, settle_cause_at, settle_cause_of_test}
use Rattle.ct_history.specs.Legal.{is_allowed, is_legal, is_next_attempt, is_stop_due, same_cause, settles, starts}
use Rattle.ct_history.proofs.LegalLemmas.{allowed-snoc, failing_not_due, legal_allowed, legal_from, legal_not_due, legal_with_stop, same_cause_refl, stop_failed, stop-snoc}
use Rattle.ct_history.proofs.OpenLemmas.{open_starts-snoc}
use Rattle.ct_core.specs.Choice.{attempt_after}
use Rattle.ct_core.specs.Core.{with_due_stop}
use Rattle.ct_core.specs.Places.{stop_places}

-- an entry that is no Stop leaves whether there is a Stop
pub stop_stays : (es : List Entry) (e : Entry) → is_stop e ≡ false → has_stop (es ++ e ∷ []) ≡ has_stop es
stop_stays es e plain = stop-snoc es e ∙ ap (λ (b : Bool). has_stop es || (b || false)) plain ∙ or-false (has_stop es)

-- a Stop takes at most one place
pub one_place_most : (es : List Entry) → stop_places es ≤ 1
one_place_most es = by (has_stop es)
  where
    by : (b : Bool) → (if b then 0 else 1) ≤ 1
    by true = omega arith
    by false = omega arith

-- a Start of the test that was looked up is allowed if the test may start and the attempt is its next
starts_found : (plan : PlanParts) (es : List Entry) (o : Option PlanTest) (p : Option Placement) (a : ℕ) → may_start_at plan es p o ≡ true → a ≡ attempt_after es o → starts plan es a p o ≡ true
starts_found plan es None p a may next = may
starts_found plan es (Some t) p a may next = and_from (may_start plan t p es) (is_next_attempt t a es) may (eq-eqb a (length (attempts_of t.number t.rules es) + 1) next)

settles_found : (plan : PlanParts) (es : List Entry) (o : Option PlanTest) (c : Cause) → settle_cause_at plan es o ≡ Some c → settles plan es c o ≡ true
settles_found plan es None c is = cc
settles_found plan es (Some t) c is = ap (λ (x : Option Cause). same_cause c x) is ∙ same_cause_refl c

module _ (plan : PlanParts) (es : List Entry) (legal : is_legal plan es ≡ true) where
  pub start_allowed : (n a w : ℕ) (p : Option Placement) → is_busy_in w es ≡ false → may_start_at plan es p (test_at plan.tests n) ≡ true → a ≡ attempt_after es (test_at plan.tests n) → is_allowed plan es (Is.Start n a w p) ≡ true
  start_allowed n a w p free may next =
      and_from (not (is_stop_due plan es) && starts plan es a p (test_at plan.tests n)) (not (is_busy_in w es))
      (and_from (not (is_stop_due plan es)) (starts plan es a p (test_at plan.tests n)) (legal_not_due plan es legal) (starts_found plan es (test_at plan.tests n) p a may next))
      (ap not free)

  pub settle_allowed : (n : ℕ) (c : Cause) → settle_cause_of_test plan es n ≡ Some c → is_allowed plan es (Is.Settle n c) ≡ true
  settle_allowed n c is = and_from (not (is_stop_due plan es)) (settles plan es c (test_at plan.tests n)) (legal_not_due plan es legal) (settles_found plan es (test_at plan.tests n) c is)

  pub end_allowed : (t a w : ℕ) (s : Seen) → holds_start t a w es ≡ true → is_allowed plan es (Is.End t a w s) ≡ true
  end_allowed t a w s holds = and_from (not (is_stop_due plan es)) (holds_start t a w es) (legal_not_due plan es legal) holds

-- behind an entry and the Stop that it makes due, the
-- history is legal, and needs as many places as before
pub record IsFinalStep (plan : PlanParts) (es : List Entry) (e : Entry) (more : List Entry) : Type 0 where
  pub legal : is_legal plan more ≡ true
  pub opens : length (open_starts more) ≡ length (open_starts (es ++ e ∷ []))
  pub places : length more + stop_places more ≡ length es + 1 + stop_places es

module _ (plan : PlanParts) (ascends : IsAscendingFrom 1 (map (λ (t : PlanTest). t.number) plan.tests)) (es : List Entry) (legal : is_legal plan es ≡ true) where
  -- if a Stop is due, there was none before
  pub due_first : (e : Entry) → is_stop_due plan (es ++ e ∷ []) ≡ true → has_stop es ≡ false
  due_first e due =
      false_from_ne_true (has_stop es)
      (λ stop. true≢false (sym due ∙ failing_not_due plan es e (stop_failed plan ascends es (legal_allowed plan es legal) stop)))

  with_stop : (e : Entry) → is_stop e ≡ false → is_allowed plan es e ≡ true → is_stop_due plan (es ++ e ∷ []) ≡ true → IsFinalStep plan es e ((es ++ e ∷ []) ++ Is.Stop ∷ [])
  with_stop e plain allowed due =
      let xs = es ++ e ∷ [] in
      let none : has_stop xs ≡ false = stop-snoc es e ∙ ap (λ (b : Bool). b || (is_stop e || false)) (due_first e due) ∙ ap (λ (b : Bool). b || false) plain in
      let now : stop_places (xs ++ Is.Stop ∷ []) ≡ 0 = ap (λ (b : Bool). if b then 0 else 1) (stop-snoc xs Is.Stop ∙ or-true (has_stop xs)) in
      let before : stop_places es ≡ 1 = ap (λ (b : Bool). if b then 0 else 1) (due_first e due) in
      record {
        legal = legal_with_stop plan xs (allowed-snoc plan es e (legal_allowed plan es legal) allowed) due;
        opens = ap (λ (rs : List Running). length rs) (open_starts-snoc xs Is.Stop refl ∙ append-nil (open_starts xs));
        places = omega (arith, length-append xs (Is.Stop ∷ []), length-append es (e ∷ []), now, before);
      }

  without_stop : (e : Entry) → is_stop e ≡ false → is_allowed plan es e ≡ true → is_stop_due plan (es ++ e ∷ []) ≡ false → IsFinalStep plan es e (es ++ e ∷ [])
  without_stop e plain allowed not_due =
      let same : stop_places (es ++ e ∷ []) ≡ stop_places es = ap (λ (b : Bool). if b then 0 else 1) (stop_stays es e plain) in
      record {
        legal = legal_from plan (es ++ e ∷ []) (allowed-snoc plan es e (legal_allowed plan es legal) allowed) not_due;
        opens = refl;
        places = omega (arith, length-append es (e ∷ []), same);
      }

  pub final_step : (e : Entry) → is_stop e ≡ false → is_allowed plan es e ≡ true → IsFinalStep plan es e (with_due_stop plan (es ++ e ∷ []))
  final_step e plain allowed =
      let xs = es ++ e ∷ [] in
      elim (cases_Bool (is_stop_due plan xs)) [
        | inl due ↦ subst (λ (ys : List Entry). IsFinalStep plan es e ys) (sym (ap (λ (b : Bool). if b then xs ++ Is.Stop ∷ [] else xs) due)) (with_stop e plain allowed due)
        | inr not_due ↦ subst (λ (ys : List Entry). IsFinalStep plan es e ys) (sym (ap (λ (b : Bool). if b then xs ++ Is.Stop ∷ [] else xs) not_due)) (without_stop e plain allowed not_due)
      ]
