-- The names in a log of failed tests. Source: CMake manual, ctest(1), --rerun-failed. The form of a line is
-- ctest's.
-- That the number is not looked at, and that other lines are passed over, is this project's choice.
use Rattle.std.specs.Prelude.{ℕ, ◌+◌, ◌&&◌, not, List, take, drop, length, filter_map, Option, Some, None, ◌==◌, if◌then◌else◌}
use Rattle.std.specs.List.{position, slice_split}
use Rattle.ct_base.specs.Bytes.{colon, line_feed}
use Rattle.ct_base.specs.Seconds.{is_numeral}

-- the text behind this place, where it is not empty and digits alone stand in front of the place
abbrev pub name_behind : List ℕ → Option ℕ → Option (List ℕ)
name_behind line None = None
name_behind line (Some at) =
    if is_numeral (take at line) && not (length (drop (at + 1) line) == 0)
    then Some (drop (at + 1) line)
    else None

-- the name in a line: one or more digits, a `:`, and the name, which is not empty
abbrev pub name_in : List ℕ → Option (List ℕ)
name_in line = name_behind line (position (λ byte. byte == colon) line)

-- the names in the lines of a log, in order. Behind a line feed at the end stands an empty line, without a
-- name.
abbrev pub failed_in : List ℕ → List (List ℕ)
failed_in log = filter_map name_in (slice_split (λ byte. byte == line_feed) log)
