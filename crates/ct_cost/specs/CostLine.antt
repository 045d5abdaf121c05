-- The lines of cost data. Source: CMake manual, cmake-properties(7), COST. That a name has one line with
-- its last durations, and costs the greatest of them, is this project's choice.
use Rattle.std.specs.Prelude.{ℕ, ◌-◌, ◌<◌, ◌≤◌, max, All, List, [], ◌∷◌, ◌++◌, drop, length, map, find, bytes_eq, Option, is_some, option_and_then, if◌then◌else◌}
use Rattle.std.specs.List.{reduce, IsDistinct}
use Rattle.std.specs.Option.{option_map_or}
use Rattle.ct_base.specs.Seconds.{most_micros}
use Rattle.ct_cost.specs.declared.durations.TheConstants.{MOST_DURATIONS}

-- what is known of a name: how long its last attempts that passed took, in microseconds, oldest first
pub record CostLine : Type 0 where
  pub name : List ℕ
  pub durations : List ℕ

-- how many durations of a name are kept
abbrev pub most_durations : ℕ
most_durations = MOST_DURATIONS

-- one to eight durations, each at most 10^15 microseconds
pub record AreDurations (durations : List ℕ) : Type 0 where
  pub some : 0 < length durations
  pub few : length durations ≤ most_durations
  pub short : All (λ micros. micros ≤ most_micros) durations

-- each name has one line, with one to eight durations
pub record AreCostLines (lines : List CostLine) : Type 0 where
  pub durations : All (λ (line : CostLine). AreDurations line.durations) lines
  pub names : IsDistinct bytes_eq (map (λ (line : CostLine). line.name) lines)

-- what is known of earlier runs: the lines of costs, and the names of the tests that failed last time
pub record Costs : Type 0 where
  pub lines : List CostLine
  pub failed : List (List ℕ)

-- what holds of all cost data: each name has one line, with one to eight durations, and each failed name
-- stands once
pub record AreCosts (costs : Costs) : Type 0 where
  pub lines : AreCostLines costs.lines
  pub failed : IsDistinct bytes_eq costs.failed

-- the last durations of these, as many as are kept
abbrev pub last_durations : List ℕ → List ℕ
last_durations durations = drop (length durations - most_durations) durations

-- the greatest of these durations, if there is one
abbrev pub greatest_of : List ℕ → Option ℕ
greatest_of durations = reduce max durations

-- the line of a name, if it has one
abbrev pub line_of : List CostLine → List ℕ → Option CostLine
line_of lines name = find (λ (l : CostLine). bytes_eq name l.name) lines

-- the cost of a name, if it has a line: its greatest duration
abbrev pub cost_of : List CostLine → List ℕ → Option ℕ
cost_of lines name = option_and_then (λ (l : CostLine). greatest_of l.durations) (line_of lines name)

-- the lines with this one in place of the one with its name, or behind the others where there is none
abbrev pub with_line : List CostLine → CostLine → List CostLine
with_line [] line = line ∷ []
with_line (first ∷ lines) line =
    if bytes_eq line.name first.name then line ∷ lines else first ∷ with_line lines line

-- the lines with this one behind them, unless its name has a line
abbrev pub with_new_line : List CostLine → CostLine → List CostLine
with_new_line lines line = if is_some (line_of lines line.name) then lines else lines ++ line ∷ []

-- a line after one more run, which took `micros`
abbrev pub with_run : ℕ → CostLine → CostLine
with_run micros line = record { name = line.name; durations = last_durations (line.durations ++ micros ∷ []) }

-- the line of a name without a run
abbrev pub unrun : List ℕ → CostLine
unrun name = record { name = name; durations = [] }

-- the lines after one more run of a name, which took `micros`
abbrev pub after_run : List CostLine → List ℕ → ℕ → List CostLine
after_run lines name micros =
    with_line lines (option_map_or (with_run micros) (line_of lines name) (with_run micros (unrun name)))
