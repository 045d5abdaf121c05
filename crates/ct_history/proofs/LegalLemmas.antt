-- A history that is allowed or legal, with one entry more, and when a Stop is due behind it.
use Rattle.std.proofs.Common.{◌≡◌, ◌∙◌, sym, ap, subst, Bool, true, false, ℕ, ◌-◌, List, [], ◌∷◌, ◌++◌, length, take, refl, arith, append_assoc, length-append, inl, inr}
use Rattle.std.specs.Prelude.{Option, Some, None, find, map, not, ◌&&◌, ◌||◌, cond, if◌then◌else◌}
use Rattle.std.specs.List.{list_any}
use Rattle.std.proofs.Math.Seq.{take-append_seam}
use Rattle.std.proofs.lemmas.Bool.{and_parts, and_from, cases_Bool, true≢false, or_from, or_right}
use Rattle.std.proofs.lemmas.Bool.Decides.{nat_tests}
use Rattle.std.proofs.lemmas.List.{append-nil}
use Rattle.std.proofs.lemmas.List.Folds.{list_any-append}
use Rattle.ct_alloc.specs.declared.placement.Placement.{Placement}
use Rattle.ct_verdict.specs.declared.verdict.Cause.{Cause}
use Rattle.ct_verdict.specs.declared.verdict.Cause.TheVariants.{Unstarted, Lacks, Fixture, NotAvailable, BadOperation, Insufficient, Stopped, Memory}
use Rattle.ct_verdict.specs.declared.verdict.Verdict.{Verdict}
use Rattle.ct_verdict.specs.declared.verdict.Verdict.TheVariants.{Disabled}
use Rattle.ct_history.specs.declared.plan.PlanTest.{PlanTest}
use Rattle.ct_history.specs.declared.plan.PlanParts.{PlanParts}
use Rattle.ct_history.specs.declared.history.Entry.{Entry}
use Rattle.ct_history.specs.declared.history.Entry.TheVariants.{Start, End, Settle, Stop}
use Rattle.ct_history.specs.Plan.{IsAscendingFrom}
use Rattle.ct_history.specs.History.{has_stop, is_stop}
use Rattle.ct_history.specs.Verdicts.{is_failing_in, verdict_in}
use Rattle.ct_history.specs.Legal.{are_allowed_behind, ends_in_first_failure, has_failing, is_allowed, is_allowed_so_far, is_legal, is_stop_due, same_cause, without_last}
use Rattle.ct_history.proofs.FinalLemmas.{start_ends_none, verdict_stays}
use Rattle.ct_history.proofs.PlanLemmas.{find_passes, found_at}

allowed_behind-snoc : (plan : PlanParts) (front es : List Entry) (e : Entry) → are_allowed_behind plan front es ≡ true → is_allowed plan (front ++ es) e ≡ true → are_allowed_behind plan front (es ++ e ∷ []) ≡ true
allowed_behind-snoc plan front [] e so_far allowed =
    and_from (is_allowed plan front e) true (subst (λ (es : List Entry). is_allowed plan es e ≡ true) (append-nil front) allowed) refl
allowed_behind-snoc plan front (x ∷ xs) e so_far allowed =
    let both = and_parts (is_allowed plan front x) (are_allowed_behind plan (front ++ x ∷ []) xs) so_far in
    and_from (is_allowed plan front x) (are_allowed_behind plan (front ++ x ∷ []) (xs ++ e ∷ [])) both.0
    (allowed_behind-snoc plan (front ++ x ∷ []) xs e both.1 (subst (λ (es : List Entry). is_allowed plan es e ≡ true) (sym (append_assoc front (x ∷ []) xs)) allowed))

-- a history that is allowed so far, with one more allowed entry
pub allowed-snoc : (plan : PlanParts) (es : List Entry) (e : Entry) → is_allowed_so_far plan es ≡ true → is_allowed plan es e ≡ true → is_allowed_so_far plan (es ++ e ∷ []) ≡ true
allowed-snoc plan es e so_far allowed = allowed_behind-snoc plan [] es e so_far allowed

-- a legal history is allowed so far, and no Stop is due
pub legal_allowed : (plan : PlanParts) (es : List Entry) → is_legal plan es ≡ true → is_allowed_so_far plan es ≡ true
legal_allowed plan es legal = (and_parts (is_allowed_so_far plan es) (not (is_stop_due plan es)) legal).0

pub legal_not_due : (plan : PlanParts) (es : List Entry) → is_legal plan es ≡ true → not (is_stop_due plan es) ≡ true
legal_not_due plan es legal = (and_parts (is_allowed_so_far plan es) (not (is_stop_due plan es)) legal).1

pub legal_from : (plan : PlanParts) (es : List Entry) → is_allowed_so_far plan es ≡ true → is_stop_due plan es ≡ false → is_legal plan es ≡ true
legal_from plan es so_far not_due = and_from (is_allowed_so_far plan es) (not (is_stop_due plan es)) so_far (ap not not_due)

both_ways : (a b : Bool) → (a && (b && not b)) ≡ false
both_ways true true = refl
both_ways true false = refl
both_ways false b = refl

-- the empty history is legal
pub legal-nil : (plan : PlanParts) → is_legal plan [] ≡ true
legal-nil plan = ap not (both_ways plan.stop_on_failure (has_failing plan []))

pub without_last-snoc : (es : List Entry) (e : Entry) → without_last (es ++ e ∷ []) ≡ es
without_last-snoc es e =
    let shorter : length (es ++ e ∷ []) - 1 ≡ length es = omega (arith, length-append es (e ∷ [])) in
    ap (λ n. take n (es ++ e ∷ [])) shorter ∙ take-append_seam es (e ∷ [])

-- a Stop is due behind an entry exactly where the option is on and it makes the first failing verdict final
pub due-snoc : (plan : PlanParts) (es : List Entry) (e : Entry) → is_stop_due plan (es ++ e ∷ []) ≡ (plan.stop_on_failure && (has_failing plan (es ++ e ∷ []) && not (has_failing plan es)))
due-snoc plan es e = ap (λ (xs : List Entry). plan.stop_on_failure && (has_failing plan (es ++ e ∷ []) && not (has_failing plan xs))) (without_last-snoc es e)

pub any_found : {A : Type 0} (p : A → Bool) (xs : List A) → list_any p xs ≡ true → (x : A) × (find p xs ≡ Some x)
any_found p [] any = cc
any_found p (x ∷ xs) any = elim (cases_Bool (p x)) [
  | inl here ↦ (x, ap (λ (b : Bool). cond b (Some x) (find p xs)) here)
  | inr not_here ↦
      let later = any_found p xs (sym (ap (λ (b : Bool). b || list_any p xs) not_here) ∙ any) in
      (later.0, ap (λ (b : Bool). cond b (Some x) (find p xs)) not_here ∙ later.1)
]

-- where an element that one test finds passes another test, some element passes that one
found_any : {A : Type 0} (p q : A → Bool) (xs : List A) (x : A) → find p xs ≡ Some x → q x ≡ true → list_any q xs ≡ true
found_any p q [] x is passes = cc
found_any p q (y ∷ ys) x is passes = elim (cases_Bool (p y)) [
  | inl here ↦
      let found : Some y ≡ Some x = sym (ap (λ (b : Bool). cond b (Some y) (find p ys)) here) ∙ is in
      let same : y ≡ x = cc in
      ap (λ (b : Bool). b || list_any q ys) (ap q same ∙ passes)
  | inr not_here ↦ or_right (q y) (list_any q ys) (found_any p q ys x (sym (ap (λ (b : Bool). cond b (Some y) (find p ys)) not_here) ∙ is) passes)
]

failing_verdict : (o : Option Verdict) → is_failing_in o ≡ true → (v : Verdict) × (o ≡ Some v)
failing_verdict None is = cc
failing_verdict (Some v) is = (v, refl)

-- a verdict of the failing class stays
pub failing_stays : (plan : PlanParts) → IsAscendingFrom 1 (map (λ (t : PlanTest). t.number) plan.tests) → (es : List Entry) (e : Entry) → is_allowed plan es e ≡ true → has_failing plan es ≡ true → has_failing plan (es ++ e ∷ []) ≡ true
failing_stays plan ascends es e allowed failing =
    let p : PlanTest → Bool = λ t. is_failing_in (verdict_in plan.repeat t es) in
    let q : PlanTest → Bool = λ t. is_failing_in (verdict_in plan.repeat t (es ++ e ∷ [])) in
    let found = any_found p plan.tests failing in
    let t = found.0 in
    let passes = find_passes p plan.tests t found.1 in
    let verdict = failing_verdict (verdict_in plan.repeat t es) passes in
    let stays = verdict_stays plan t (found_at p 1 plan.tests t ascends found.1) es verdict.0 verdict.1 e allowed in
    found_any p q plan.tests t found.1 (ap is_failing_in stays ∙ sym (ap is_failing_in verdict.1) ∙ passes)

-- a Start makes no failing verdict final, so that no Stop is due behind it
pub start_not_due : (plan : PlanParts) (es : List Entry) (n a w : ℕ) (p : Option Placement) → is_stop_due plan (es ++ Start n a w p ∷ []) ≡ false
start_not_due plan es n a w p =
    due-snoc plan es (Start n a w p) ∙ by_cases plan.stop_on_failure (has_failing plan (es ++ Start n a w p ∷ [])) (has_failing plan es) before
  where
    before : has_failing plan (es ++ Start n a w p ∷ []) ≡ true → has_failing plan es ≡ true
    before failing =
        let q : PlanTest → Bool = λ t. is_failing_in (verdict_in plan.repeat t (es ++ Start n a w p ∷ [])) in
        let found = any_found q plan.tests failing in
        let t = found.0 in
        let passes = find_passes q plan.tests t found.1 in
        let verdict = failing_verdict (verdict_in plan.repeat t (es ++ Start n a w p ∷ [])) passes in
        let was = start_ends_none plan.repeat t es n a w p verdict.0 verdict.1 in
        found_any q (λ u. is_failing_in (verdict_in plan.repeat u es)) plan.tests t found.1 (ap is_failing_in was ∙ sym (ap is_failing_in verdict.1) ∙ passes)

    by_cases : (on now then' : Bool) → (now ≡ true → then' ≡ true) → (on && (now && not then')) ≡ false
    by_cases false now then' same = refl
    by_cases true false then' same = refl
    by_cases true true true same = refl
    by_cases true true false same = absurd (true≢false (sym (same refl)))

-- where a failing verdict stands already, no Stop is due
pub failing_not_due : (plan : PlanParts) (es : List Entry) (e : Entry) → has_failing plan es ≡ true → is_stop_due plan (es ++ e ∷ []) ≡ false
failing_not_due plan es e failing =
    due-snoc plan es e ∙ ap (λ (b : Bool). plan.stop_on_failure && (has_failing plan (es ++ e ∷ []) && not b)) failing ∙ none plan.stop_on_failure (has_failing plan (es ++ e ∷ []))
  where
    none : (a b : Bool) → (a && (b && not true)) ≡ false
    none true true = refl
    none true false = refl
    none false b = refl

-- where a Stop is due, a failing verdict is final
pub due_failing : (plan : PlanParts) (es : List Entry) → is_stop_due plan es ≡ true → has_failing plan es ≡ true
due_failing plan es due =
    let on = and_parts plan.stop_on_failure (ends_in_first_failure plan es) due in
    (and_parts (has_failing plan es) (not (has_failing plan (without_last es))) on.1).0

-- with a Stop where one is due, a history that is allowed so far is legal
pub legal_with_stop : (plan : PlanParts) (es : List Entry) → is_allowed_so_far plan es ≡ true → is_stop_due plan es ≡ true → is_legal plan (es ++ Stop ∷ []) ≡ true
legal_with_stop plan es so_far due =
    legal_from plan (es ++ Stop ∷ []) (allowed-snoc plan es Stop so_far due) (failing_not_due plan es Stop (due_failing plan es due))

pub stop-snoc : (es : List Entry) (e : Entry) → has_stop (es ++ e ∷ []) ≡ (has_stop es || (is_stop e || false))
stop-snoc es e = list_any-append is_stop es (e ∷ [])

module _ (plan : PlanParts) (ascends : IsAscendingFrom 1 (map (λ (t : PlanTest). t.number) plan.tests)) where
  -- a history with a Stop has a failing verdict
  stop_failed-snoc : (es : List Entry) (e : Entry) → is_allowed plan es e ≡ true → (has_stop es ≡ true → has_failing plan es ≡ true) → has_stop (es ++ e ∷ []) ≡ true → has_failing plan (es ++ e ∷ []) ≡ true
  stop_failed-snoc es e allowed before stop = elim (cases_Bool (has_stop es)) [
    | inl stands ↦ failing_stays plan ascends es e allowed (before stands)
    | inr none ↦ failing_stays plan ascends es e allowed (by_stop e allowed (sym (stop-snoc es e ∙ ap (λ (b : Bool). b || (is_stop e || false)) none) ∙ stop))
  ]
    where
      by_stop : (x : Entry) → is_allowed plan es x ≡ true → (is_stop x || false) ≡ true → has_failing plan es ≡ true
      by_stop (Start n a w p) may is = cc
      by_stop (End n a w s) may is = cc
      by_stop (Settle n c) may is = cc
      by_stop Stop due is = due_failing plan es due

  stop_failed_behind : (front es : List Entry) → are_allowed_behind plan front es ≡ true → (has_stop front ≡ true → has_failing plan front ≡ true) → has_stop (front ++ es) ≡ true → has_failing plan (front ++ es) ≡ true
  stop_failed_behind front [] allowed before = subst (λ (xs : List Entry). has_stop xs ≡ true → has_failing plan xs ≡ true) (sym (append-nil front)) before
  stop_failed_behind front (e ∷ es) allowed before =
      let both = and_parts (is_allowed plan front e) (are_allowed_behind plan (front ++ e ∷ []) es) allowed in
      subst (λ (xs : List Entry). has_stop xs ≡ true → has_failing plan xs ≡ true) (append_assoc front (e ∷ []) es)
      (stop_failed_behind (front ++ e ∷ []) es both.1 (stop_failed-snoc front e both.0 before))

  pub stop_failed : (es : List Entry) → is_allowed_so_far plan es ≡ true → has_stop es ≡ true → has_failing plan es ≡ true
  stop_failed es so_far stop = stop_failed_behind [] es so_far (λ none. absurd (true≢false (sym none))) stop

pub same_cause_refl : (cause : Cause) → same_cause cause (Some cause) ≡ true
same_cause_refl Unstarted = refl
same_cause_refl (Lacks k) = grind (arith, nat_tests)
same_cause_refl (Fixture k) = grind (arith, nat_tests)
same_cause_refl NotAvailable = refl
same_cause_refl (BadOperation k) = grind (arith, nat_tests)
same_cause_refl Insufficient = refl
same_cause_refl Stopped = refl
same_cause_refl Memory = refl

-- in the empty history no test has failed
pub failing-nil : (plan : PlanParts) → has_failing plan [] ≡ false
failing-nil plan = by_tests plan.tests
  where
    by_disabled : (d : Bool) → is_failing_in (if d then Some Disabled else None) ≡ false
    by_disabled true = refl
    by_disabled false = refl

    by_tests : (ts : List PlanTest) → list_any (λ (t : PlanTest). is_failing_in (verdict_in plan.repeat t [])) ts ≡ false
    by_tests [] = refl
    by_tests (t ∷ ts) = or_from (is_failing_in (verdict_in plan.repeat t [])) (list_any (λ (u : PlanTest). is_failing_in (verdict_in plan.repeat u [])) ts) (by_disabled t.disabled) (by_tests ts)
