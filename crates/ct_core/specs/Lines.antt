-- The lines of a queue: tests with the same demand. Source: CMake manual, cmake-properties(7),
-- PROCESSORS, RESOURCE_LOCK, RUN_SERIAL; ctest(1), Resource Allocation. The lines are this project's own.
use Rattle.std.specs.Prelude.{◌≡◌, ℕ, ◌<◌, Bool, List, length, map, All, Option, option_map, option_and_then, slice_get}
use Rattle.ct_base.specs.declared.defs.Need.{Need}
use Rattle.ct_history.specs.declared.plan.PlanTest.{PlanTest}
use Rattle.ct_history.specs.declared.plan.PlanParts.{PlanParts}
use Rattle.ct_history.specs.Plan.{test_at}

-- the demand of a test, which has to be met before it starts:
-- processors, locks that it holds alone or shares, needs, and whether it runs alone
pub record Demand : Type 0 where
  pub processors : ℕ
  pub serial : Bool
  pub locks : List (List ℕ)
  pub shared : List (List ℕ)
  pub needs : List Need

-- the demand of a test
abbrev pub demand_of : PlanTest → Demand
demand_of t = record {
  processors = t.processors;
  serial = t.serial;
  locks = t.locks;
  shared = t.shared;
  needs = t.needs;
}

-- two tests have the same demand
abbrev pub AskAlike : PlanTest → PlanTest → Type 0
AskAlike one other = demand_of one ≡ demand_of other

-- the demand of the test with this number, if there is one
abbrev pub demand_of_test : PlanParts → ℕ → Option Demand
demand_of_test plan number = option_map demand_of (test_at plan.tests number)

-- the demand of the test at a place of the queue, if there is one
abbrev pub demand_at : PlanParts → ℕ → Option Demand
demand_at plan place = option_and_then (demand_of_test plan) (slice_get plan.queue place)

-- the line of each test of the queue is a place of the queue, and the test there has the same demand
pub record AreLinesOf (plan : PlanParts) (lines : List ℕ) : Type 0 where
  pub within : All (λ line. line < length plan.queue) lines
  pub alike : map (demand_at plan) lines ≡ map (demand_of_test plan) plan.queue
