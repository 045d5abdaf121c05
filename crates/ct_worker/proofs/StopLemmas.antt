-- A Stop behind a history leaves its verdicts, its attempts and its lines as they are.
use Rattle.std.proofs.Common.{◌≡◌, ◌∙◌, ap, Bool, true, false, ℕ, ◌+◌, List, [], ◌∷◌, ◌++◌, length, refl, arith}
use Rattle.std.specs.Prelude.{◌^◌, min, codes, decimal, Option, Some, None, not, ◌==◌, ◌&&◌, if◌then◌else◌}
use Rattle.std.specs.List.{list_any}
use Rattle.std.proofs.lemmas.List.{append-nil}
use Rattle.std.proofs.lemmas.List.Elements.{filter_map-append}
use Rattle.std.proofs.lemmas.List.Sums.{sum_by-append}
use Rattle.ct_verdict.specs.declared.rules.Rules.{Rules}
use Rattle.ct_verdict.specs.declared.repeat.Repeat.{Repeat}
use Rattle.ct_verdict.specs.declared.verdict.Cause.{Cause}
use Rattle.ct_verdict.specs.declared.verdict.Verdict.{Verdict}
use Rattle.ct_verdict.specs.declared.verdict.Verdict.TheVariants.{Disabled}
use Rattle.ct_history.specs.declared.plan.PlanTest.{PlanTest}
use Rattle.ct_history.specs.declared.plan.PlanParts.{PlanParts}
use Rattle.ct_history.specs.declared.history.Entry.{Entry}
use Rattle.ct_history.specs.declared.history.Entry.TheVariants.{Stop}
use Rattle.ct_history.specs.History.{Running, attempt_by, attempts_of, open_starts, settled_by}
use Rattle.ct_history.specs.Legal.{is_stop_due}
use Rattle.ct_history.specs.Plan.{enabled, test_at}
use Rattle.ct_history.specs.Verdicts.{first_of_list, is_over, last_of_list, settled_cause, settled_or, verdict_at, verdict_in}
use Rattle.ct_history.proofs.OpenLemmas.{open_starts-snoc}
use Rattle.ct_core.specs.Core.{with_due_stop}
use Rattle.ct_report.specs.Report.{lines_of_test, lines_with, micros_by, micros_of, seconds_text, test_lines, verdict_text}
use Rattle.ct_report.proofs.LineLemmas.{test_lines-snoc}

-- what holds with a Stop and without one holds with a Stop if one is due
pub due_keeps : (plan : PlanParts) (es : List Entry) (P : List Entry → Type 0) → P es → P (es ++ Stop ∷ []) → P (with_due_stop plan es)
due_keeps plan es P here behind = by (is_stop_due plan es)
  where
    by : (due : Bool) → P (if due then es ++ Stop ∷ [] else es)
    by true = behind
    by false = here

module _ (es : List Entry) where
  pub open_stop : open_starts (es ++ Stop ∷ []) ≡ open_starts es
  open_stop = open_starts-snoc es Stop refl ∙ append-nil (open_starts es)

  pub attempts_stop : (test : ℕ) (rules : Rules) → attempts_of test rules (es ++ Stop ∷ []) ≡ attempts_of test rules es
  attempts_stop test rules = filter_map-append (attempt_by test rules) es (Stop ∷ []) ∙ append-nil (attempts_of test rules es)

  settled_stop : (test : ℕ) → settled_cause test (es ++ Stop ∷ []) ≡ settled_cause test es
  settled_stop test = ap (λ (cs : List Cause). first_of_list cs) (filter_map-append (settled_by test) es (Stop ∷ []) ∙ append-nil _)

  pub verdict_stop : (repeat : Repeat) (t : PlanTest) → verdict_in repeat t (es ++ Stop ∷ []) ≡ verdict_in repeat t es
  verdict_stop repeat t =
      let now = es ++ Stop ∷ [] in
      ap (λ (rs : List Running). if t.disabled then Some Disabled else settled_or (settled_cause t.number now) (if not (list_any (λ (r : Running). r.test == t.number) rs) && is_over repeat (attempts_of t.number t.rules now) then last_of_list (attempts_of t.number t.rules now) else None)) open_stop
      ∙ ap (λ (vs : List Verdict). if t.disabled then Some Disabled else settled_or (settled_cause t.number now) (if not (list_any (λ (r : Running). r.test == t.number) (open_starts es)) && is_over repeat vs then last_of_list vs else None)) (attempts_stop t.number t.rules)
      ∙ ap (λ (c : Option Cause). if t.disabled then Some Disabled else settled_or c (if not (list_any (λ (r : Running). r.test == t.number) (open_starts es)) && is_over repeat (attempts_of t.number t.rules es) then last_of_list (attempts_of t.number t.rules es) else None)) (settled_stop t.number)

  micros_stop : (test : ℕ) → micros_of test (es ++ Stop ∷ []) ≡ micros_of test es
  micros_stop test = ap (λ (n : ℕ). min n (10 ^ 18)) (sum_by-append (micros_by test) es (Stop ∷ []) ∙ none _)
    where
      none : (m : ℕ) → m + (0 + 0) ≡ m
      none m = omega arith

  module _ (plan : PlanParts) where
    pub lines_stop : (place : ℕ) (o : Option ℕ) → lines_of_test plan (es ++ Stop ∷ []) place o ≡ lines_of_test plan es place o
    lines_stop place None = refl
    lines_stop place (Some number) = by_test (test_at plan.tests number)
      where
        by_verdict : (t : PlanTest) (v : Option Verdict) → lines_with plan (es ++ Stop ∷ []) place (Some t) v ≡ lines_with plan es place (Some t) v
        by_verdict t None = refl
        by_verdict t (Some v) =
            ap (λ (n : ℕ). (decimal place ++ codes "/" ++ decimal (length (enabled plan.tests)) ++ codes " Test #" ++ decimal t.number ++ codes ": " ++ t.name ++ codes " ... " ++ verdict_text plan.tests v ++ codes " " ++ seconds_text n ++ codes " sec\n") ∷ []) (micros_stop t.number)

        by_test : (o : Option PlanTest) → lines_with plan (es ++ Stop ∷ []) place o (verdict_at plan (es ++ Stop ∷ []) o) ≡ lines_with plan es place o (verdict_at plan es o)
        by_test None = refl
        by_test (Some t) = ap (λ (v : Option Verdict). lines_with plan (es ++ Stop ∷ []) place (Some t) v) (verdict_stop plan.repeat t) ∙ by_verdict t (verdict_in plan.repeat t es)

    pub test_lines_stop : test_lines plan (es ++ Stop ∷ []) ≡ test_lines plan es
    test_lines_stop = test_lines-snoc plan es Stop ∙ append-nil (test_lines plan es)

-- verdicts, attempts and lines stay with a Stop if one is due
module _ (plan : PlanParts) (es : List Entry) where
  pub lines_due : (place : ℕ) (o : Option ℕ) → lines_of_test plan (with_due_stop plan es) place o ≡ lines_of_test plan es place o
  lines_due place o = due_keeps plan es (λ xs. lines_of_test plan xs place o ≡ lines_of_test plan es place o) refl (lines_stop es plan place o)

  pub test_lines_due : test_lines plan (with_due_stop plan es) ≡ test_lines plan es
  test_lines_due = due_keeps plan es (λ xs. test_lines plan xs ≡ test_lines plan es) refl (test_lines_stop es plan)
