-- The rules by the open starts and the courses are the rules over the list of entries.
use Rattle.std.proofs.Common.{◌≡◌, ◌∙◌, sym, ap, ℕ, ◌^◌, ◌<◌, Bool, not, ◌&&◌, List, refl, Option, Some, None}
use Rattle.std.specs.Prelude.{◌==◌, is_none, is_some, find, if◌then◌else◌}
use Rattle.std.specs.List.{list_all}
use Rattle.ct_alloc.specs.declared.placement.Placement.{Placement}
use Rattle.ct_verdict.specs.declared.verdict.Cause.{Cause}
use Rattle.ct_verdict.specs.declared.verdict.Cause.TheVariants.{Stopped}
use Rattle.ct_history.specs.declared.plan.PlanTest.{PlanTest}
use Rattle.ct_history.specs.declared.plan.PlanParts.{PlanParts}
use Rattle.ct_history.specs.declared.history.Entry.{Entry}
use Rattle.ct_history.specs.declared.history.Entry.TheVariants.{Start, End, Settle, Stop}
use Rattle.ct_history.specs.Plan.{test_at}
use Rattle.ct_history.specs.History.{has_stop, is_busy_in, is_open_in, open_starts, used_slots}
use Rattle.ct_history.specs.Verdicts.{are_all_final, is_failing_in, is_passed_verdict, verdict_at, verdict_of_test}
use Rattle.ct_history.specs.Rules.{cause_behind, first_unpassed, follows_finals, has_room, is_pending, is_placed, may_start, settle_cause}
use Rattle.ct_history.specs.Legal.{is_allowed, is_next_attempt, is_stop_due, same_cause, settles, starts}
use Rattle.ct_history.specs.Course.{course_in}
use Rattle.ct_history.specs.Seen.{cause_by, follows_by, has_failed_by, is_allowed_by, is_pending_by, may_start_by, next_attempt, settles_by, starts_by, unpassed_by, verdict_in_course, verdict_by_lookup, verdict_by_number}
use Rattle.ct_history.specs.Audited.{HasShortAttempt}
use Rattle.ct_history.proofs.CourseLemmas.{next_is, verdict_is}
use Rattle.ct_history.proofs.DueLemmas.{has_failed_in}

module _ (plan : PlanParts) (small : plan.repeat.times < 2 ^ 32) (es : List Entry) where
  number_verdict : (j : ℕ) → verdict_by_number plan (open_starts es) (course_in es) j ≡ verdict_of_test plan es j
  number_verdict j = by_lookup (test_at plan.tests j)
    where
      by_lookup : (o : Option PlanTest) → verdict_by_lookup plan.repeat (open_starts es) (course_in es) o ≡ verdict_at plan es o
      by_lookup None = refl
      by_lookup (Some t) = verdict_is plan.repeat t es small

  follows_is : (t : PlanTest) → follows_by plan (open_starts es) (course_in es) t ≡ follows_finals plan t es
  follows_is t = λ i. list_all (λ (j : ℕ). is_some (number_verdict j i)) t.before

  unpassed_is : (t : PlanTest) → unpassed_by plan (open_starts es) (course_in es) t ≡ first_unpassed plan t es
  unpassed_is t = λ i. find (λ (s : ℕ). not (is_passed_verdict (number_verdict s i))) t.setups

  pending_is : (t : PlanTest) → is_pending_by plan (open_starts es) (course_in es) t ≡ is_pending plan t es
  pending_is t = λ i. not (is_some (verdict_is plan.repeat t es small i)) && not (is_open_in t.number es)

  may_is : (t : PlanTest) (p : Option Placement) → may_start_by plan (open_starts es) (course_in es) (has_stop es) p t ≡ may_start plan t p es
  may_is t p =
      λ i. not (has_stop es) && pending_is t i && (follows_is t i && is_none (unpassed_is t i) && is_none t.fixed) && has_room plan t es && is_placed plan.resources t.needs (used_slots es) p

  starts_is : (a : ℕ) (p : Option Placement) (o : Option PlanTest) → a < 2 ^ 32 → starts_by plan (open_starts es) (course_in es) (has_stop es) a p o ≡ starts plan es a p o
  starts_is a p None short = refl
  starts_is a p (Some t) short = λ i. may_is t p i && next_is t es a short i

  cause_is : (t : PlanTest) → cause_by plan (open_starts es) (course_in es) (has_stop es) t ≡ settle_cause plan t es
  cause_is t =
      λ i. if not (pending_is t i) then None else (if has_stop es then Some Stopped else (if follows_is t i then cause_behind (unpassed_is t i) t.fixed else None))

  settles_is : (c : Cause) (o : Option PlanTest) → settles_by plan (open_starts es) (course_in es) (has_stop es) c o ≡ settles plan es c o
  settles_is c None = refl
  settles_is c (Some t) = ap (same_cause c) (cause_is t)

  -- an entry is allowed by what was kept exactly where it is allowed by the entries
  pub allowed_is : (e : Entry) → HasShortAttempt e → is_allowed_by plan (open_starts es) (course_in es) (has_stop es) (is_stop_due plan es) e ≡ is_allowed plan es e
  allowed_is (Start t a w p) short = λ i. not (is_stop_due plan es) && starts_is a p (test_at plan.tests t) short i && not (is_busy_in w es)
  allowed_is (End t a w s) short = refl
  allowed_is (Settle t c) short = λ i. not (is_stop_due plan es) && settles_is c (test_at plan.tests t) i
  allowed_is Stop short = refl

  pub failed_is : (o : Option ℕ) → has_failed_by plan (open_starts es) (course_in es) o ≡ has_failed_in plan es o
  failed_is None = refl
  failed_is (Some n) = ap is_failing_in (number_verdict n)

  pub final_is : list_all (λ (t : PlanTest). is_some (verdict_in_course plan.repeat (open_starts es) (course_in es) t)) plan.tests ≡ are_all_final plan es
  final_is = λ i. list_all (λ (t : PlanTest). is_some (verdict_is plan.repeat t es small i)) plan.tests
