-- The environment of a test's program. Source: CMake manual, cmake-properties(7), ENVIRONMENT and
-- ENVIRONMENT_MODIFICATION. That an inherited count of groups is removed is this project's choice.
use Rattle.std.specs.Prelude.{ℕ, ◌≡◌, bytes_eq, List, [], ◌∷◌, map, Option, Some, None, if◌then◌else◌}
use Rattle.std.specs.Option.{option_or}
use Rattle.std.specs.Ordering.{nat_cmp}
use Rattle.std.specs.Cmp.Lexicographic.{slice_cmp}
use Rattle.std.specs.List.Sorted.{IsStrictlySortedBy}
use Rattle.ct_base.specs.Memory.{held_by}
use Rattle.ct_base.specs.declared.defs.Pair.{Pair}
use Rattle.ct_props.specs.Values.{value_of_key}
use Rattle.ct_props.specs.declared.props.Props.{Props}
use Rattle.ct_alloc.specs.declared.placement.Placement.{Placement}
use Rattle.ct_env.specs.Operation.{value_after}
use Rattle.ct_env.specs.Assignment.{assignments_in}
use Rattle.ct_env.specs.Modification.{Change, change_in}
use Rattle.ct_env.specs.PlacementVariables.{group_count, given_variables}
use Rattle.ct_groups.specs.GroupsIn.{count_groups}

-- the value of a variable in the run's own environment: that of its last pair; the count of groups has none
abbrev pub own_value : List Pair → List ℕ → Option (List ℕ)
own_value own name = if bytes_eq group_count name then None else held_by own name

-- the base value of a variable: its last value in the entries of ENVIRONMENT, else its own one
abbrev pub base_value : List Pair → List (List ℕ) → List ℕ → Option (List ℕ)
base_value own entries name = option_or (held_by (assignments_in entries) name) (own_value own name)

-- the value of a variable after a change, which may be one of another variable
abbrev pub after_change : List ℕ → Option (List ℕ) → Option (List ℕ) → Option Change → Option (List ℕ)
after_change name base old None = old
after_change name base old (Some change) =
    if bytes_eq change.name name then value_after change.operation change.value base old else old

-- the value of a variable after the entries of ENVIRONMENT_MODIFICATION in turn
abbrev pub after_entries : List ℕ → Option (List ℕ) → Option (List ℕ) → List (List ℕ) → Option (List ℕ)
after_entries name base old [] = old
after_entries name base old (entry ∷ entries) =
    after_entries name base (after_change name base old (change_in entry)) entries

-- the value of a variable after the modification of its base value
abbrev pub modified_value : List Pair → Props → List ℕ → Option (List ℕ)
modified_value own props name =
    after_entries name (base_value own props.environment name)
    (base_value own props.environment name) props.modification

-- the value of a variable in the environment: what a placement gives it, else its value after the
-- modification
abbrev pub value_for : List Pair → Props → Option Placement → List ℕ → Option (List ℕ)
value_for own props given name =
    option_or (held_by (given_variables (count_groups props.groups) given) name)
    (modified_value own props name)

-- the names ascend in byte order, so that each stands once
abbrev pub IsAscending : List Pair → Type 0
IsAscending pairs = IsStrictlySortedBy (slice_cmp nat_cmp) (map (λ (pair : Pair). pair.name) pairs)

-- the environment: its pairs stand in byte order of names, and hold each variable that is set, with its value
pub record IsEnvironment (own : List Pair) (props : Props) (given : Option Placement) (pairs : List Pair)
    : Type 0 where
  pub ordered : IsAscending pairs
  pub holds : (name : List ℕ) → value_of_key pairs name ≡ value_for own props given name
