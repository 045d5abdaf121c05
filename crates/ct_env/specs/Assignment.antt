-- The variables that entries set. Source: CMake manual, cmake-properties(7), ENVIRONMENT. That an entry
-- without a name is passed over is this project's choice.
use Rattle.std.specs.Prelude.{ℕ, ◌+◌, List, length, take, drop, Option, Some, None, ◌==◌, if◌then◌else◌}
use Rattle.std.specs.List.{position, filter_map}
use Rattle.std.specs.Option.{option_map, option_and_then}
use Rattle.ct_base.specs.Bytes.{equals_sign}
use Rattle.ct_base.specs.declared.defs.Pair.{Pair}

-- the texts in front of the first place of a byte and behind it, if the byte is there
abbrev pub split_first : ℕ → List ℕ → Option (List ℕ × List ℕ)
split_first byte text =
    option_map (λ at. (take at text, drop (at + 1) text)) (position (λ other. other == byte) text)

-- a variable of a name and a value; none where the name is empty
abbrev pub with_name : List ℕ × List ℕ → Option Pair
with_name parts = if length parts.0 == 0 then None else Some (record { name = parts.0; value = parts.1 })

-- the name and what stands behind the first `=` of an entry
abbrev pub assignment_in : List ℕ → Option Pair
assignment_in entry = option_and_then with_name (split_first equals_sign entry)

-- the variables that entries set, in order; an entry that sets none is passed over
abbrev pub assignments_in : List (List ℕ) → List Pair
assignments_in entries = filter_map assignment_in entries
