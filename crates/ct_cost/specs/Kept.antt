-- What contracts see of lines that are kept by their names. This project's own.
use Rattle.std.specs.Prelude.{ℕ, List, Option, Some, None, if◌then◌else◌}
use Rattle.std.specs.declared.vec.Vec.{Vec}
use Rattle.ct_cost.specs.declared.line.Line.{Line}
use Rattle.ct_base.specs.Names.{with_new_name}
use Rattle.ct_cost.specs.CostLine.{CostLine, with_new_line}
use Rattle.ct_cost.specs.Text.{is_named}

-- the line of a name with these durations
abbrev pub line_for : List ℕ → List ℕ → CostLine
line_for name durations = record { name = name; durations = durations }

-- a line that is kept by its name
abbrev pub kept_line : {Z : Type 0} → Vec ℕ Z × List ℕ → CostLine
kept_line entry = line_for entry.0.items entry.1

-- a line that was read in a text, as contracts see it
abbrev pub seen_line : Line → CostLine
seen_line line = line_for line.name.now line.durations

-- the durations of a line
abbrev pub durations_of : CostLine → List ℕ
durations_of line = line.durations

-- the lines with the one that was read behind them, if one was read
abbrev pub with_read : List CostLine → Option CostLine → List CostLine
with_read lines None = lines
with_read lines (Some line) = with_new_line lines line

-- the names with the one of a line behind them, if the line has one
abbrev pub with_named : List (List ℕ) → List ℕ → List (List ℕ)
with_named names line = if is_named line then with_new_name names line else names
