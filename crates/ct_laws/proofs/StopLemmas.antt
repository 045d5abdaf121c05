-- A Stop stands directly behind the first failure, and nowhere else.
use Rattle.std.proofs.Common.{◌≡◌, ◌∙◌, sym, ap, subst, refl, ℕ, ◌+◌, ◌-◌, ◌<◌, ◌≤◌, Bool, true, false, List, [], ◌∷◌, ◌++◌, length, take, arith, length-append, inl, inr}
use Rattle.std.specs.Prelude.{◌&&◌, not, nat_le, Option, Some, None}
use Rattle.std.proofs.lemmas.Bool.{and_from, and_parts, cases_Bool, false_from_ne_true, leb-false, leb-true, not-true, true≢false}
use Rattle.std.proofs.lemmas.List.{append-nil, take-append-le, take_all}
use Rattle.std.proofs.lemmas.List.Folds.{list_any_at}
use Rattle.ct_verdict.specs.declared.verdict.Verdict.{Verdict}
use Rattle.ct_history.specs.declared.plan.PlanTest.{PlanTest}
use Rattle.ct_history.specs.declared.plan.PlanParts.{PlanParts}
use Rattle.ct_history.specs.declared.history.Entry.{Entry}
use Rattle.ct_history.specs.declared.history.Entry.TheVariants.{Start, End, Settle, Stop}
use Rattle.ct_history.specs.Plan.{IsSound, test_at}
use Rattle.ct_history.specs.History.{holds_start, is_busy_in, is_stop}
use Rattle.ct_history.specs.Verdicts.{is_failing_in, verdict_in}
use Rattle.ct_history.specs.Legal.{ends_in_first_failure, has_failing, is_allowed, is_allowed_so_far, is_legal, is_stop_due, settles, starts, without_last}
use Rattle.ct_history.proofs.ApartLemmas.{allowed_induction}
use Rattle.ct_history.proofs.LegalLemmas.{any_found, failing-nil, failing_stays, legal_not_due, without_last-snoc}
use Rattle.ct_history.proofs.PlanLemmas.{find_passes}
use Rattle.ct_history.proofs.ProgressLemmas.{found_contains}
use Rattle.ct_laws.specs.Places.{BeginWithStop, EndInFirstFailure, SomeFailed}
use Rattle.ct_laws.proofs.CutLemmas.{cut}

failing_verdict : (found : Option Verdict) → is_failing_in found ≡ true → (v : Verdict) × (found ≡ Some v)
failing_verdict None is = cc
failing_verdict (Some v) is = (v, refl)

some_failed : (plan : PlanParts) (es : List Entry) → has_failing plan es ≡ true → SomeFailed plan es
some_failed plan es failing =
    let p : PlanTest → Bool = λ t. is_failing_in (verdict_in plan.repeat t es) in
    let found = any_found p plan.tests failing in
    let passes = find_passes p plan.tests found.0 found.1 in
    let verdict = failing_verdict (verdict_in plan.repeat found.0 es) passes in
    record {
      test = found.0;
      member = found_contains p plan.tests found.0 found.1;
      verdict = verdict.0;
      is = verdict.1;
      failing = sym (ap is_failing_in verdict.1) ∙ passes;
    }

failing_from : (plan : PlanParts) (es : List Entry) → SomeFailed plan es → has_failing plan es ≡ true
failing_from plan es some =
    let p : PlanTest → Bool = λ t. is_failing_in (verdict_in plan.repeat t es) in
    let there = some.member in
    list_any_at p plan.tests there.0 some.test there.1 (ap p there.2 ∙ ap is_failing_in some.is ∙ some.failing)

-- a failure stays, and one that a shorter history has stands in front of the last entry
record StaysFailed (plan : PlanParts) (es : List Entry) : Type 0 where
  stays : (n : ℕ) → has_failing plan (take n es) ≡ true → has_failing plan es ≡ true
  before : (n : ℕ) → n < length es → has_failing plan (take n es) ≡ true → has_failing plan (without_last es) ≡ true

failed_in_front : (plan : PlanParts) (es : List Entry) (e : Entry) (n : ℕ) → StaysFailed plan es → n ≤ length es → has_failing plan (take n (es ++ e ∷ [])) ≡ true → has_failing plan es ≡ true
failed_in_front plan es e n known short failing =
    known.stays n (subst (λ (xs : List Entry). has_failing plan xs ≡ true) (take-append-le n es (e ∷ []) short) failing)

failed-snoc : (plan : PlanParts) → IsSound plan → (es : List Entry) (e : Entry) → is_allowed plan es e ≡ true → StaysFailed plan es → StaysFailed plan (es ++ e ∷ [])
failed-snoc plan sound es e allowed known =
    let len : length (es ++ e ∷ []) ≡ length es + 1 = length-append es (e ∷ []) in
    record {
      stays = λ n failing. elim (cases_Bool (nat_le n (length es))) [
        | inl short ↦ failing_stays plan sound.numbers es e allowed (failed_in_front plan es e n known (leb-true n (length es) short) failing)
        | inr long ↦
            let more : length es < n = leb-false n (length es) long in
            subst (λ (xs : List Entry). has_failing plan xs ≡ true) (take_all n (es ++ e ∷ []) (omega arith)) failing
      ];
      before = λ n less failing.
          subst (λ (xs : List Entry). has_failing plan xs ≡ true) (sym (without_last-snoc es e)) (failed_in_front plan es e n known (omega arith) failing);
    }

failed-nil : (plan : PlanParts) → StaysFailed plan []
failed-nil plan = record {
  stays = λ n failing. subst (λ (xs : List Entry). has_failing plan xs ≡ true) (take_all n [] (omega arith)) failing;
  before = λ n less failing. absurd (omega arith);
}

stays_failed : (plan : PlanParts) → IsSound plan → (es : List Entry) → is_allowed_so_far plan es ≡ true → StaysFailed plan es
stays_failed plan sound es so_far = allowed_induction plan (StaysFailed plan) (failed-snoc plan sound) (failed-nil plan) es so_far

-- a Stop stands directly behind the first failure
pub stop_behind : (plan : PlanParts) (front rest : List Entry) → IsSound plan → is_legal plan (front ++ Stop ∷ rest) ≡ true → (plan.stop_on_failure ≡ true) × EndInFirstFailure plan front
stop_behind plan front rest sound legal =
    let at = cut plan front Stop rest legal in
    let on = and_parts plan.stop_on_failure (ends_in_first_failure plan front) at.allowed in
    let ends = and_parts (has_failing plan front) (not (has_failing plan (without_last front))) on.1 in
    let known = stays_failed plan sound front at.so_far in (
      on.0,
      record {
        failed = some_failed plan front ends.0;
        first = λ n less some. true≢false (sym (known.before n less (failing_from plan (take n front) some)) ∙ not-true (has_failing plan (without_last front)) ends.1);
      },
    )

not_empty : (plan : PlanParts) (front : List Entry) → has_failing plan front ≡ true → 0 < length front
not_empty plan [] failing = absurd (true≢false (sym failing ∙ failing-nil plan))
not_empty plan (e ∷ es) failing = omega arith

-- behind the first failure a Stop is due
stop_due : (plan : PlanParts) (front : List Entry) → plan.stop_on_failure ≡ true → EndInFirstFailure plan front → is_stop_due plan front ≡ true
stop_due plan front on ends =
    let failing = failing_from plan front ends.failed in
    let some = not_empty plan front failing in
    let none : has_failing plan (without_last front) ≡ false =
    false_from_ne_true (has_failing plan (without_last front)) (λ early. ends.first (length front - 1) (omega arith) (some_failed plan (without_last front) early)) in
    and_from plan.stop_on_failure (ends_in_first_failure plan front) on (and_from (has_failing plan front) (not (has_failing plan (without_last front))) failing (ap not none))

due_not : (due : Bool) → due ≡ true → not due ≡ true → ⊥
due_not due is none = true≢false (sym is ∙ not-true due none)

-- where an entry that is no Stop is allowed, no Stop is due
pub not_due : (plan : PlanParts) (front : List Entry) (e : Entry) → is_stop e ≡ false → is_allowed plan front e ≡ true → is_stop_due plan front ≡ false
not_due plan front (Start n a w p) other allowed =
    let most = and_parts (not (is_stop_due plan front) && starts plan front a p (test_at plan.tests n)) (not (is_busy_in w front)) allowed in
    not-true (is_stop_due plan front) (and_parts (not (is_stop_due plan front)) (starts plan front a p (test_at plan.tests n)) most.0).0
not_due plan front (End n a w s) other allowed = not-true (is_stop_due plan front) (and_parts (not (is_stop_due plan front)) (holds_start n a w front) allowed).0
not_due plan front (Settle n c) other allowed =
    not-true (is_stop_due plan front) (and_parts (not (is_stop_due plan front)) (settles plan front c (test_at plan.tests n)) allowed).0
not_due plan front Stop other allowed = cc

begins_with : (e : Entry) (es : List Entry) → is_stop e ≡ true → BeginWithStop (e ∷ es)
begins_with (Start n a w p) es stop = cc
begins_with (End n a w s) es stop = cc
begins_with (Settle n c) es stop = cc
begins_with Stop es stop = record { behind = es; is = refl }

-- it is there
pub stop_there : (plan : PlanParts) (front rest : List Entry) → plan.stop_on_failure ≡ true → EndInFirstFailure plan front → is_legal plan (front ++ rest) ≡ true → BeginWithStop rest
stop_there plan front [] on ends legal =
    let whole = subst (λ (es : List Entry). is_legal plan es ≡ true) (append-nil front) legal in
    absurd (due_not (is_stop_due plan front) (stop_due plan front on ends) (legal_not_due plan front whole))
stop_there plan front (e ∷ es) on ends legal = elim (cases_Bool (is_stop e)) [
  | inl stop ↦ begins_with e es stop
  | inr other ↦ absurd (true≢false (sym (stop_due plan front on ends) ∙ not_due plan front e other (cut plan front e es legal).allowed))
]
