-- All complete histories of a plan in which the same is seen have the same summary,
-- cost data and log. This project's own.
use Rattle.std.specs.Prelude.{◌≡◌, ℕ, List, true}
use Rattle.ct_verdict.specs.declared.attempt.Seen.{Seen}
use Rattle.ct_history.specs.declared.plan.PlanParts.{PlanParts}
use Rattle.ct_history.specs.declared.history.Entry.{Entry}
use Rattle.ct_history.specs.Legal.{is_legal}
use Rattle.ct_history.specs.Verdicts.{are_all_final}
use Rattle.ct_cost.specs.declared.cost_data.CostData.{CostData}
use Rattle.ct_cost.specs.After.{failed_log_text}
use Rattle.ct_cost.specs.Costs.{costs_after}
use Rattle.ct_report.specs.Report.{summary_lines}
use Rattle.ct_app.specs.Meant.{AreSeen}

-- two histories have the same summary, the same log of failed tests, and, for each cost data before,
-- the same cost data after
pub record HaveSameTexts (plan : PlanParts) (one other : List Entry) : Type 0 where
  pub summary : summary_lines plan one ≡ summary_lines plan other
  pub costs : (before : CostData) → costs_after plan one before ≡ costs_after plan other before
  pub log : failed_log_text plan one ≡ failed_log_text plan other

-- this history has the same texts as each other legal history in which each test is final and `seen` gives
-- what was seen of each attempt
abbrev pub HasMeantTexts : PlanParts → (ℕ → ℕ → Seen) → List Entry → Type 0
HasMeantTexts plan seen entries =
    (other : List Entry) → is_legal plan other ≡ true → are_all_final plan other ≡ true → AreSeen seen other
    → HaveSameTexts plan entries other
