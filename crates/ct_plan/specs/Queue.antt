-- The order in which tests are looked at to start. Where one test runs at a time, it is by number. Else the
-- tests that failed in the last run are first, and then those that cost more. Source: CMake manual,
-- cmake-properties(7), COST; ctest(1), -j. Ties are this project's choice.
use Rattle.std.specs.Prelude.{◌≡◌, ℕ, Bool, true, false, nat_lt, List, map, AllPairs, IsPermutation, Option, Some, None, unwrap_or, ◌==◌, if◌then◌else◌}
use Rattle.std.specs.Bool.{beq}
use Rattle.ct_base.specs.declared.defs.TestDef.{TestDef}
use Rattle.ct_props.specs.declared.props.Props.{Props}
use Rattle.ct_props.specs.Numbered.{at_number}
use Rattle.ct_history.specs.declared.plan.PlanTest.{PlanTest}
use Rattle.ct_history.specs.Plan.{enabled}
use Rattle.ct_cost.specs.declared.cost_data.CostData.{CostData}
use Rattle.ct_plan.specs.declared.standing.Standing.{Standing}
use Rattle.ct_plan.specs.Source.{Source}
use Rattle.ct_cost.specs.Costs.{cost_of_name, failed_last}

-- the cost of a test: what its property says, else what the cost data says of its name, else 0
abbrev pub cost_in : CostData → TestDef → Props → ℕ
cost_in costs def props = unwrap_or props.cost (unwrap_or (cost_of_name costs def.name) 0)

-- the standing of the test with this number, if it is there
abbrev pub standing_there : CostData → ℕ → Option TestDef → Option Props → Option Standing
standing_there costs number None props = None
standing_there costs number (Some def) None = None
standing_there costs number (Some def) (Some props) =
    Some (record { failed = failed_last costs def.name; cost = cost_in costs def props; number = number })

-- the standing of the test with this number, if it is there
abbrev pub standing_of : Source → ℕ → Option Standing
standing_of s number = standing_there s.costs number (at_number s.defs number) (at_number s.props number)

-- one test costs more than another, or as much and has a lesser number
abbrev pub costs_more : Standing → Standing → Bool
costs_more one other =
    if one.cost == other.cost then nat_lt one.number other.number else nat_lt other.cost one.cost

-- where several tests may run at once, one goes in front of another: it alone failed in the last run, or both
-- or neither did and it costs more
abbrev pub is_more_urgent : Standing → Standing → Bool
is_more_urgent one other = if beq one.failed other.failed then costs_more one other else one.failed

-- one test goes in front of another, at this level: by number at level 1, else by urgency
abbrev pub goes_first : ℕ → Standing → Standing → Bool
goes_first level one other = if level == 1 then nat_lt one.number other.number else is_more_urgent one other

-- both tests are there, and one goes in front of the other
abbrev pub goes_first_there : ℕ → Option Standing → Option Standing → Bool
goes_first_there level (Some one) (Some other) = goes_first level one other
goes_first_there level _ _ = false

-- the queue of these tests at this level, where `standing` gives by its number how each of them stands: each
-- that is not disabled is in it once, and in front of those that it goes before
pub record IsQueue
    (level : ℕ) (standing : ℕ → Option Standing) (tests : List PlanTest) (queue : List ℕ) : Type 0 where
  pub all : IsPermutation queue (map (λ (t : PlanTest). t.number) (enabled tests))
  pub order : AllPairs
      (λ one other. goes_first_there level (standing one) (standing other) ≡ true) queue
