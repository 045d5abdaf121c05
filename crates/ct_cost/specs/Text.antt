-- The lines of cost data as texts. Source: this project's choice, after the files that ctest writes.
use Rattle.std.specs.Prelude.{ℕ, ◌+◌, ◌/◌, ◌%◌, Bool, not, List, [], ◌∷◌, ◌++◌, map, flat_map, bytes_eq, length, codes, decimal, Option, Some, None, option_map, option_and_then, ◌==◌}
use Rattle.std.specs.List.{slice_split}
use Rattle.std.specs.Path.{rsplit_once}
use Rattle.ct_base.specs.Bytes.{comma, line_feed, space, zero_digit}
use Rattle.ct_base.specs.Seconds.{micros_in, number_in}
use Rattle.ct_cost.specs.declared.line.Version.{Version}
use Rattle.ct_cost.specs.declared.line.Version.TheVariants.{One, Two}
use Rattle.ct_cost.specs.CostLine.{CostLine, last_durations}

-- the byte ends a line
abbrev pub ends_line : ℕ → Bool
ends_line byte = byte == line_feed

-- the lines of a text. Behind a line feed at the end stands an empty line, which is passed over.
abbrev pub lines_in : List ℕ → List (List ℕ)
lines_in text = slice_split ends_line text

-- the line behind which the failed tests stand
abbrev pub is_divider : List ℕ → Bool
is_divider line = bytes_eq line (codes "---")

-- the first line of a text of version 2
abbrev pub is_mark : List ℕ → Bool
is_mark line = bytes_eq line (codes "version 2")

-- the byte stands between two durations
abbrev pub ends_duration : ℕ → Bool
ends_duration byte = byte == comma

-- these values, if each of them is there
abbrev pub each_of : List (Option ℕ) → Option (List ℕ)
each_of [] = Some []
each_of (None ∷ rest) = None
each_of (Some value ∷ rest) = option_map (λ values. value ∷ values) (each_of rest)

-- durations that are joined by `,`; where there are more than are kept, the last ones
abbrev pub durations_in : List ℕ → Option (List ℕ)
durations_in text = option_map last_durations (each_of (map micros_in (slice_split ends_duration text)))

-- the line of a name and durations; none where one of these is missing
abbrev pub named_line : List ℕ → Option (List ℕ) → Option CostLine
named_line (first ∷ rest) (Some durations) = Some (record { name = first ∷ rest; durations = durations })
named_line name durations = None

-- the one duration of a line with runs and a cost, if both are there: its cost
abbrev pub only_duration : Option ℕ → Option ℕ → Option (List ℕ)
only_duration (Some runs) (Some micros) = Some (micros ∷ [])
only_duration runs micros = None

-- the line of a text of version 1 that was cut at its last space: its name and runs stand in front, its cost
-- behind
abbrev pub line_before : List ℕ × List ℕ → Option CostLine
line_before cut =
    option_and_then
    (λ (front : List ℕ × List ℕ). named_line front.0 (only_duration (number_in front.1) (micros_in cut.1)))
    (rsplit_once space cut.0)

-- a line of cost data. In version 1 it is a name, a space, runs, a space and a cost; in version 2 a name,
-- a space and durations. The name is all in front of these pieces.
abbrev pub line_in : Version → List ℕ → Option CostLine
line_in One text = option_and_then line_before (rsplit_once space text)
line_in Two text =
    option_and_then (λ (cut : List ℕ × List ℕ). named_line cut.0 (durations_in cut.1))
    (rsplit_once space text)

-- the line of a failed test has a name: it is not empty
abbrev pub is_named : List ℕ → Bool
is_named line = not (length line == 0)

-- the last six decimal digits of a number
abbrev pub six_digits : ℕ → List ℕ
six_digits n = map (λ place. zero_digit + n / place % 10) (100000 ∷ 10000 ∷ 1000 ∷ 100 ∷ 10 ∷ 1 ∷ [])

-- microseconds as seconds with six decimals
abbrev pub exact_seconds : ℕ → List ℕ
exact_seconds micros = decimal (micros / 1000000) ++ codes "." ++ six_digits (micros % 1000000)

-- the text of a duration behind another one
abbrev pub next_text : ℕ → List ℕ
next_text micros = codes "," ++ exact_seconds micros

-- durations, joined by `,`
abbrev pub durations_text : List ℕ → List ℕ
durations_text [] = []
durations_text (first ∷ rest) = exact_seconds first ++ flat_map next_text rest

-- the text of a line of cost data
abbrev pub cost_line_text : CostLine → List ℕ
cost_line_text line = line.name ++ codes " " ++ durations_text line.durations ++ codes "\n"

-- the text of a failed name
abbrev pub failed_text : List ℕ → List ℕ
failed_text name = name ++ codes "\n"
