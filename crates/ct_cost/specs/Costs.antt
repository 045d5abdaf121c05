-- Cost data: read from a text, after a run, and as a text. Source: CMake manual, cmake-properties(7), COST.
-- The file is this project's choice, after the one that ctest writes.
use Rattle.std.specs.Prelude.{Bool, Option, List, [], ◌∷◌, ℕ, ◌++◌, map, filter, filter_map, flat_map, fold, codes, if◌then◌else◌}
use Rattle.std.specs.List.{before_first, after_first}
use Rattle.ct_history.specs.declared.plan.PlanTest.{PlanTest}
use Rattle.ct_history.specs.declared.plan.PlanParts.{PlanParts}
use Rattle.ct_history.specs.declared.history.Entry.{Entry}
use Rattle.ct_history.specs.Failed.{failed_tests}
use Rattle.ct_cost.specs.declared.cost_data.CostData.{CostData}
use Rattle.ct_cost.specs.declared.line.Version.{Version}
use Rattle.ct_cost.specs.declared.line.Version.TheVariants.{One, Two}
use Rattle.ct_base.specs.Names.{each_once, is_among}
use Rattle.ct_cost.specs.CostLine.{cost_of, with_new_line}
use Rattle.ct_cost.specs.Text.{is_divider, is_mark, lines_in, line_in, is_named, cost_line_text, failed_text}
use Rattle.ct_cost.specs.After.{after_test, passed_tests}

-- what a test of this name costs, if that is known: the greatest duration of the name
abbrev pub cost_of_name : CostData → List ℕ → Option ℕ
cost_of_name costs name = cost_of costs.lines name

-- a test of this name failed last time
abbrev pub failed_last : CostData → List ℕ → Bool
failed_last costs name = is_among name costs.failed

-- the cost data in these lines: the costs up to the first line that is `---`, and behind it the failed tests
abbrev pub costs_from : Version → List (List ℕ) → CostData
costs_from version lines =
    record {
      lines = fold with_new_line [] (filter_map (line_in version) (before_first is_divider lines));
      failed = each_once (filter is_named (after_first is_divider lines));
    }

-- the cost data in the lines of a text, whose first line may say that they are of version 2
abbrev pub costs_by : List (List ℕ) → CostData
costs_by [] = costs_from One []
costs_by (first ∷ rest) = if is_mark first then costs_from Two rest else costs_from One (first ∷ rest)

-- the cost data in a text
abbrev pub costs_in : List ℕ → CostData
costs_in text = costs_by (lines_in text)

-- the cost data after a run: each test that passed counts for its name, and the
-- failed names are those of this run
abbrev pub costs_after : PlanParts → List Entry → CostData → CostData
costs_after plan entries costs =
    record {
      lines = fold (after_test entries) costs.lines (passed_tests plan entries);
      failed = each_once (map (λ (t : PlanTest). t.name) (failed_tests plan entries));
    }

-- cost data as a text of version 2
abbrev pub costs_text : CostData → List ℕ
costs_text costs =
    codes "version 2\n"
    ++ flat_map cost_line_text costs.lines
    ++ codes "---\n"
    ++ flat_map failed_text costs.failed
