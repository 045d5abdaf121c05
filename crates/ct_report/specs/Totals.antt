-- What a summary says of the tests of a plan. This project's own.
use Rattle.std.specs.Prelude.{ℕ, ◌≡◌, ◌+◌, ◌++◌, ◌∷◌, [], not, ◌&&◌, List, Option, map, filter, count_by, if◌then◌else◌}
use Rattle.ct_verdict.specs.declared.verdict.Verdict.{Verdict}
use Rattle.ct_history.specs.declared.plan.PlanTest.{PlanTest}
use Rattle.ct_history.specs.declared.plan.PlanParts.{PlanParts}
use Rattle.ct_history.specs.declared.history.Entry.{Entry}
use Rattle.ct_history.specs.Verdicts.{verdict_in, is_failing_in}
use Rattle.ct_report.specs.declared.totals.Totals.{Totals}
use Rattle.ct_report.specs.Labels.{CountsTest, label_count}
use Rattle.ct_report.specs.Report.{has_label, is_good_in, is_unrun_in, listed_line, listed_with}

-- these are the totals of these tests of the plan
pub record AreTotals (plan : PlanParts) (entries : List Entry) (tests : List PlanTest) (totals : Totals)
    : Type 0 where
  pub good : totals.good ≡ count_by (λ t. is_good_in (verdict_in plan.repeat t entries)) tests
  pub unrun : totals.unrun
      ≡ map (listed_line plan entries) (filter (λ t. is_unrun_in (verdict_in plan.repeat t entries)) tests)
  pub failed : totals.failed
      ≡ map (listed_line plan entries) (filter (λ t. is_failing_in (verdict_in plan.repeat t entries)) tests)
  pub labelled : (label : List ℕ)
      → label_count totals.labelled label ≡ count_by (λ (t : PlanTest).
      not t.disabled && has_label label t) tests
  pub labelled_good : (label : List ℕ)
      → label_count totals.labelled_good label ≡ count_by (λ t.
      is_good_in (verdict_in plan.repeat t entries) && has_label label t) tests

-- one test more, which has this verdict, is counted and listed
pub record AddsToTotals (t : PlanTest) (verdict : Option Verdict) (before after : Totals) : Type 0 where
  pub good : after.good ≡ before.good + (if is_good_in verdict then 1 else 0)
  pub unrun : after.unrun ≡ before.unrun ++ (if is_unrun_in verdict then listed_with t verdict ∷ [] else [])
  pub failed : after.failed
      ≡ before.failed ++ (if is_failing_in verdict then listed_with t verdict ∷ [] else [])
  pub labelled : CountsTest (not t.disabled) t before.labelled after.labelled
  pub labelled_good : CountsTest (is_good_in verdict) t before.labelled_good after.labelled_good
