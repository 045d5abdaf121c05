-- An audit that stands for a history, and what it answers of the next entry.
use Rattle.std.proofs.Common.{◌≡◌, ◌∙◌, sym, ap, subst, ℕ, ◌^◌, ◌<◌, Bool, true, false, not, ◌&&◌, List, [], ◌∷◌, ◌++◌, filter, length, arith, map, refl, cond, inl, inr, Option, Some, None}
use Rattle.std.specs.Prelude.{◌==◌, ◌||◌, is_some}
use Rattle.std.specs.List.{list_all, list_any}
use Rattle.std.proofs.Math.Bool.{or-false}
use Rattle.std.proofs.lemmas.Bool.{cases_Bool, not-true}
use Rattle.std.proofs.lemmas.Bool.Decides.{nat_tests}
use Rattle.std.proofs.lemmas.List.{append-nil, map-append}
use Rattle.ct_history.specs.declared.plan.PlanTest.{PlanTest}
use Rattle.ct_history.specs.declared.plan.PlanParts.{PlanParts}
use Rattle.ct_history.specs.declared.history.Entry.{Entry}
use Rattle.ct_history.specs.declared.history.Entry.TheVariants.{Start, End, Settle, Stop}
use Rattle.ct_history.specs.Plan.{IsSound}
use Rattle.ct_history.specs.History.{Running, has_stop, is_stop, open_starts}
use Rattle.ct_history.specs.Legal.{is_allowed, is_stop_due}
use Rattle.ct_history.proofs.LegalLemmas.{legal-nil, legal_not_due, stop-snoc, failing-nil}
use Rattle.ct_history.proofs.OpenLemmas.{is_of, open_starts-end, open_starts-snoc}
use Rattle.ct_history.specs.declared.audit.Audit.{Audit}
use Rattle.ct_history.specs.declared.open_start.OpenStart.{OpenStart}
use Rattle.ct_history.specs.Course.{course_after, course_at, course_in, open_starts_after, running_of, runs, untouched}
use Rattle.ct_history.specs.Seen.{has_failed_by, is_allowed_by, test_of_entry, verdict_in_course}
use Rattle.ct_history.specs.Audited.{HasShortAttempt, Marks, IsAuditOf, are_all_final_by, is_at_end, is_idle_by, with_failure}
use Rattle.ct_history.proofs.CourseLemmas.{course_snoc}
use Rattle.ct_history.proofs.DueLemmas.{due_more, failing_more, has_failed_in}
use Rattle.ct_history.proofs.RuleLemmas.{allowed_is, failed_is, final_is}

map_filter : (t a : ℕ) (xs : List OpenStart) → runs (filter (λ (s : OpenStart). not (s.test == t && s.attempt == a)) xs) ≡ filter (λ r. not (is_of t a r)) (runs xs)
map_filter t a [] = refl
map_filter t a (x ∷ xs) = elim (cases_Bool (x.test == t && x.attempt == a)) [
  | inl gone ↦
      ap (λ (b : Bool). runs (cond (not b) (x ∷ filter (λ (s : OpenStart). not (s.test == t && s.attempt == a)) xs) (filter (λ (s : OpenStart). not (s.test == t && s.attempt == a)) xs))) gone
      ∙ map_filter t a xs
      ∙ sym (ap (λ (b : Bool). cond (not b) (running_of x ∷ filter (λ r. not (is_of t a r)) (runs xs)) (filter (λ r. not (is_of t a r)) (runs xs))) gone)
  | inr kept ↦
      ap (λ (b : Bool). runs (cond (not b) (x ∷ filter (λ (s : OpenStart). not (s.test == t && s.attempt == a)) xs) (filter (λ (s : OpenStart). not (s.test == t && s.attempt == a)) xs))) kept
      ∙ ap (λ (rs : List Running). running_of x ∷ rs) (map_filter t a xs)
      ∙ sym (ap (λ (b : Bool). cond (not b) (running_of x ∷ filter (λ r. not (is_of t a r)) (runs xs)) (filter (λ r. not (is_of t a r)) (runs xs))) kept)
]

opens_more : (xs : List OpenStart) (front : List Entry) (e : Entry) → runs xs ≡ open_starts front → runs (open_starts_after xs e) ≡ open_starts (front ++ e ∷ [])
opens_more xs front (Start t a w p) are =
    map-append running_of xs (record { test = t; attempt = a; worker = w; placement = p } ∷ [])
    ∙ ap (λ (rs : List Running). rs ++ record { test = t; attempt = a; worker = w; placement = p } ∷ []) are
    ∙ sym (open_starts-snoc front (Start t a w p) refl)
opens_more xs front (End t a w s) are = map_filter t a xs ∙ ap (λ (rs : List Running). filter (λ r. not (is_of t a r)) rs) are ∙ sym (open_starts-end front t a w s)
opens_more xs front (Settle t c) are = are ∙ sym (open_starts-snoc front (Settle t c) refl ∙ append-nil (open_starts front))
opens_more xs front Stop are = are ∙ sym (open_starts-snoc front Stop refl ∙ append-nil (open_starts front))

module _ (plan : PlanParts) (small : plan.repeat.times < 2 ^ 32) (front : List Entry) (audit : Audit) (told : IsAuditOf plan front audit) where
  -- what the audit says of an entry is the rule over the entries
  pub says_allowed : (e : Entry) → HasShortAttempt e → is_allowed_by plan (runs audit.running.items) (course_at audit.courses) audit.stopped audit.due e ≡ is_allowed plan front e
  says_allowed e short =
      (λ i. is_allowed_by plan (told.opens i) (λ (n : ℕ). told.courses n i) (told.stopped i) (told.due i) e) ∙ allowed_is plan small front e short

  pub says_final : are_all_final_by plan audit ≡ list_all (λ (t : PlanTest). is_some (verdict_in_course plan.repeat (open_starts front) (course_in front) t)) plan.tests
  says_final = λ i. list_all (λ (t : PlanTest). is_some (verdict_in_course plan.repeat (told.opens i) (λ (n : ℕ). told.courses n i) t)) plan.tests

  -- whether the history is at its end
  pub says_end : (are_all_final_by plan audit && is_idle_by audit && not audit.due) ≡ is_at_end plan front
  says_end = λ i. (says_final ∙ final_is plan small front) i && not (list_any (λ (r : Running). true) (told.opens i)) && not (told.due i)

  -- the audit tells the history with one entry more
  pub tells_more : IsSound plan → (e : Entry) (mid : Audit) (failed : Bool) → is_allowed plan front e ≡ true → Marks e audit mid → failed ≡ has_failed_by plan (runs mid.running.items) (course_at mid.courses) (test_of_entry e) → IsAuditOf plan (front ++ e ∷ []) (with_failure plan.stop_on_failure failed mid)
  tells_more sound e mid failed allowed marks judged =
      let opens : runs mid.running.items ≡ open_starts (front ++ e ∷ []) = ap runs marks.opens ∙ opens_more audit.running.items front e told.opens in
      let courses : (n : ℕ) → course_at mid.courses n ≡ course_in (front ++ e ∷ []) n = λ n. marks.courses n ∙ ap (λ c. course_after n c e) (told.courses n) ∙ sym (course_snoc front e n) in
      let fails : failed ≡ has_failed_in plan (front ++ e ∷ []) (test_of_entry e) =
      judged ∙ (λ i. has_failed_by plan (opens i) (λ (n : ℕ). courses n i) (test_of_entry e)) ∙ failed_is plan small (front ++ e ∷ []) (test_of_entry e) in
      let was = marks.failing ∙ told.failing in
      record {
        opens = opens;
        courses = courses;
        stopped = marks.stopped ∙ (λ i. told.stopped i || is_stop e) ∙ ap (λ (b : Bool). has_stop front || b) (sym (or-false (is_stop e))) ∙ sym (stop-snoc front e);
        failing = (λ i. was i || fails i) ∙ sym (failing_more plan sound front e allowed);
        due = (λ i. plan.stop_on_failure && fails i && not (was i)) ∙ sym (due_more plan sound front e allowed);
      }

-- where nothing was noted, the audit tells the history without entries
pub tells_none : (plan : PlanParts) (audit : Audit) → audit.running.items ≡ [] → ((test : ℕ) → course_at audit.courses test ≡ untouched) → audit.stopped ≡ false → audit.failing ≡ false → audit.due ≡ false → IsAuditOf plan [] audit
tells_none plan audit none no_course unstopped unfailing undue = record {
  opens = ap runs none;
  courses = no_course;
  stopped = unstopped;
  failing = unfailing ∙ sym (failing-nil plan);
  due = undue ∙ sym (not-true (is_stop_due plan []) (legal_not_due plan [] (legal-nil plan)));
}

-- nothing is open exactly where there are no open starts
pub open_none : (xs : List OpenStart) → (length xs == 0) ≡ not (list_any (λ (r : Running). true) (runs xs))
open_none [] = refl
open_none (x ∷ xs) = grind (arith, nat_tests)
