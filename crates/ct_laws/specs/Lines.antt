-- Names that can stand in the lines of a text. Source: this project's choice, after what ctest does.
use Rattle.std.specs.Prelude.{◌≢◌, ℕ, ◌<◌, List, length, All}
use Rattle.ct_base.specs.Bytes.{line_feed}
use Rattle.ct_history.specs.declared.plan.PlanTest.{PlanTest}
use Rattle.ct_cost.specs.declared.cost_data.CostData.{CostData}
use Rattle.ct_cost.specs.CostLine.{CostLine}

-- the name can stand in a line: it is not empty, and no line feed is in it
pub record IsLine (name : List ℕ) : Type 0 where
  pub some : 0 < length name
  pub whole : All (λ byte. byte ≢ line_feed) name

-- each of these tests has a name that can stand in a line
abbrev pub HaveLines : List PlanTest → Type 0
HaveLines tests = All (λ (t : PlanTest). IsLine t.name) tests

-- each name of the cost data can stand in a line
pub record AreLines (costs : CostData) : Type 0 where
  pub lines : All (λ (line : CostLine). IsLine line.name) costs.lines
  pub failed : All IsLine costs.failed
