-- The entries of ENVIRONMENT_MODIFICATION. Source: CMake manual, cmake-properties(7),
-- ENVIRONMENT_MODIFICATION.
use Rattle.std.specs.Prelude.{ℕ, Bool, not, is_some, List, Option}
use Rattle.std.specs.List.{position}
use Rattle.std.specs.Option.{option_map, option_and_then}
use Rattle.ct_base.specs.Bytes.{colon}
use Rattle.ct_base.specs.declared.defs.Pair.{Pair}
use Rattle.ct_env.specs.declared.operation.Operation.{Operation}
use Rattle.ct_env.specs.Operation.{operation_named}
use Rattle.ct_env.specs.Assignment.{split_first, assignment_in}

-- a change of one variable: an operation and its value
pub record Change : Type 0 where
  pub name : List ℕ
  pub operation : Operation
  pub value : List ℕ

-- the change of a variable by an operation and its value, if the operation is known
abbrev pub change_by : List ℕ → List ℕ × List ℕ → Option Change
change_by name parts =
    option_map (λ operation. record { name = name; operation = operation; value = parts.1 })
    (operation_named parts.0)

-- the change of a variable that a text names: an operation and, behind the first `:`, a value
abbrev pub change_of : Pair → Option Change
change_of pair = option_and_then (change_by pair.name) (split_first colon pair.value)

-- the change in an entry `NAME=OPERATION:VALUE`, if the name is not empty and the operation is known
abbrev pub change_in : List ℕ → Option Change
change_in entry = option_and_then change_of (assignment_in entry)

-- the entry is bad: it has no change
abbrev pub is_bad_entry : List ℕ → Bool
is_bad_entry entry = not (is_some (change_in entry))

-- the place, from 0, of the first bad entry, if there is one
abbrev pub first_bad : List (List ℕ) → Option ℕ
first_bad entries = position is_bad_entry entries
