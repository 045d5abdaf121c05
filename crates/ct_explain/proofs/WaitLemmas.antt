-- What a Start waits for, by what an audit keeps.
use Rattle.std.proofs.Common.{◌≡◌, ◌∙◌, sym, subst, ℕ, ◌-◌, ◌^◌, ◌<◌, ◌≤◌, true, false, List, ◌∷◌, length, refl, Option, Some, None}
use Rattle.std.proofs.Math.Seq.{take-length}
use Rattle.std.specs.Prelude.{◌==◌, find, is_none, option_map}
use Rattle.ct_alloc.specs.declared.placement.Placement.{Placement}
use Rattle.ct_history.specs.declared.plan.PlanTest.{PlanTest}
use Rattle.ct_history.specs.declared.plan.PlanParts.{PlanParts}
use Rattle.ct_history.specs.declared.history.Entry.{Entry}
use Rattle.ct_history.specs.Plan.{test_at}
use Rattle.ct_history.specs.History.{Running, open_starts}
use Rattle.ct_history.specs.Verdicts.{verdict_at, verdict_of_test}
use Rattle.ct_history.specs.Legal.{IsWithin, is_allowed_so_far, is_next_attempt}
use Rattle.ct_history.specs.Course.{course_at, course_in, runs}
use Rattle.ct_history.specs.Seen.{next_attempt, processors_used, verdict_by_lookup, verdict_by_number}
use Rattle.ct_history.specs.declared.audit.Audit.{Audit}
use Rattle.ct_history.specs.Audited.{IsAuditOf}
use Rattle.ct_history.proofs.CourseLemmas.{next_is, verdict_is}
use Rattle.ct_history.proofs.WithinLemmas.{stays_within}
use Rattle.ct_explain.specs.declared.wait.Wait.TheVariants.{Attempt, Predecessor}
use Rattle.ct_explain.specs.Waits.{first_wait, unfinished, unless, wait_of, waits_beside}

module _ (plan : PlanParts) (small : plan.repeat.times < 2 ^ 32) (front : List Entry) (audit : Audit) (told : IsAuditOf plan front audit) where
  -- the verdict of a test, by its number
  pub says_verdict : (j : ℕ) → verdict_by_number plan (runs audit.running.items) (course_at audit.courses) j ≡ verdict_of_test plan front j
  says_verdict j = (λ i. verdict_by_number plan (told.opens i) (λ (n : ℕ). told.courses n i) j) ∙ by_lookup (test_at plan.tests j)
    where
      by_lookup : (o : Option PlanTest) → verdict_by_lookup plan.repeat (open_starts front) (course_in front) o ≡ verdict_at plan front o
      by_lookup None = refl
      by_lookup (Some t) = verdict_is plan.repeat t front small

  -- whether an attempt is the next one
  pub says_next : (t : PlanTest) (attempt : ℕ) → attempt < 2 ^ 32 → (attempt == next_attempt (course_at audit.courses t.number).ended) ≡ is_next_attempt t attempt front
  says_next t attempt short = (λ i. attempt == next_attempt (told.courses t.number i).ended) ∙ next_is t front attempt short

  -- the least predecessor that is not final
  pub says_unfinished : (t : PlanTest) → find (λ (j : ℕ). is_none (verdict_by_number plan (runs audit.running.items) (course_at audit.courses) j)) t.before ≡ unfinished plan t front
  says_unfinished t = λ i. find (λ (j : ℕ). is_none (says_verdict j i)) t.before

  -- the open starts use at most the processors of the level
  pub says_few : is_allowed_so_far plan front ≡ true → processors_used plan.tests (runs audit.running.items) ≤ plan.level
  says_few allowed =
      let within = subst (λ (es : List Entry). IsWithin plan es) (take-length front) (stays_within plan front allowed (length front)) in
      subst (λ (rs : List Running). processors_used plan.tests rs ≤ plan.level) (sym told.opens) within.processors

  -- a Start whose attempt is not the next one
  pub waits_attempt : (t : PlanTest) (attempt worker : ℕ) (placement : Option Placement) → attempt < 2 ^ 32 → (attempt == next_attempt (course_at audit.courses t.number).ended) ≡ false → Attempt (attempt - 1) ≡ wait_of plan front t attempt worker placement
  waits_attempt t attempt worker placement short late =
      let is : is_next_attempt t attempt front ≡ false = sym (says_next t attempt short) ∙ late in
      sym (λ i. first_wait (option_map Attempt (unless (is i) (attempt - 1)) ∷ option_map Predecessor (unfinished plan t front) ∷ waits_beside plan (open_starts front) t worker placement))

  -- a Start of the next attempt with a predecessor that is not final
  pub waits_predecessor : (t : PlanTest) (attempt worker : ℕ) (placement : Option Placement) (number : ℕ) → attempt < 2 ^ 32 → (attempt == next_attempt (course_at audit.courses t.number).ended) ≡ true → find (λ (j : ℕ). is_none (verdict_by_number plan (runs audit.running.items) (course_at audit.courses) j)) t.before ≡ Some number → Predecessor number ≡ wait_of plan front t attempt worker placement
  waits_predecessor t attempt worker placement number short next found =
      let is : is_next_attempt t attempt front ≡ true = sym (says_next t attempt short) ∙ next in
      let first : unfinished plan t front ≡ Some number = sym (says_unfinished t) ∙ found in
      sym (λ i. first_wait (option_map Attempt (unless (is i) (attempt - 1)) ∷ option_map Predecessor (first i) ∷ waits_beside plan (open_starts front) t worker placement))

  -- a Start of the next attempt, whose predecessors are final
  pub waits_beside_starts : (t : PlanTest) (attempt worker : ℕ) (placement : Option Placement) → attempt < 2 ^ 32 → (attempt == next_attempt (course_at audit.courses t.number).ended) ≡ true → find (λ (j : ℕ). is_none (verdict_by_number plan (runs audit.running.items) (course_at audit.courses) j)) t.before ≡ None → first_wait (waits_beside plan (runs audit.running.items) t worker placement) ≡ wait_of plan front t attempt worker placement
  waits_beside_starts t attempt worker placement short next found =
      let is : is_next_attempt t attempt front ≡ true = sym (says_next t attempt short) ∙ next in
      let first : unfinished plan t front ≡ None = sym (says_unfinished t) ∙ found in
      (λ i. first_wait (waits_beside plan (told.opens i) t worker placement))
      ∙ sym (λ i. first_wait (option_map Attempt (unless (is i) (attempt - 1)) ∷ option_map Predecessor (first i) ∷ waits_beside plan (open_starts front) t worker placement))
