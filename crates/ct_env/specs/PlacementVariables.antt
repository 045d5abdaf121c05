-- The variables that show a test its resources. Source: CMake manual, ctest(1), Resource Allocation,
-- Environment Variables. That a group without needs has a variable too is this project's choice.
use Rattle.std.specs.Prelude.{ℕ, bytes_eq, ◌&&◌, ◌==◌, List, [], ◌∷◌, ◌++◌, map, filter, flat_map, Option, Some, None, codes, decimal}
use Rattle.std.specs.List.{join_by, range_with_len}
use Rattle.std.specs.Char.{to_ascii_uppercase}
use Rattle.ct_base.specs.Bytes.{comma, semicolon}
use Rattle.ct_base.specs.declared.defs.Pair.{Pair}
use Rattle.ct_alloc.specs.declared.placement.Pick.{Pick}
use Rattle.ct_alloc.specs.declared.placement.Placement.{Placement}
use Rattle.ct_alloc.specs.NamesInOrder.{names_in_order}

-- the name of the variable with the number of groups
abbrev pub group_count : List ℕ
group_count = codes "CTEST_RESOURCE_GROUP_COUNT"

-- the name of the variable of a group
abbrev pub group_name : ℕ → List ℕ
group_name group = codes "CTEST_RESOURCE_GROUP_" ++ decimal group

-- the types of which a group has resources, each once, in byte order
abbrev pub kinds_in : ℕ → List Pick → List (List ℕ)
kinds_in group picks =
    names_in_order (map (λ (pick : Pick). pick.kind) (filter (λ (pick : Pick). pick.group == group) picks))

-- the text of a pick: the id of its resource, and how many slots of it
abbrev pub need_text : Pick → List ℕ
need_text pick = codes "id:" ++ pick.id ++ codes ",slots:" ++ decimal pick.slots

-- the texts of the needs of a group that are of a type, in order
abbrev pub needs_in : ℕ → List Pick → List ℕ → List (List ℕ)
needs_in group picks kind =
    map need_text (filter (λ (pick : Pick). pick.group == group && bytes_eq pick.kind kind) picks)

-- texts in a row with a separator between
abbrev pub joined_with : ℕ → List (List ℕ) → List ℕ
joined_with separator texts = join_by (λ text. text) (separator ∷ []) texts

-- the variable with the resources of a type that a group has
abbrev pub kind_variable : ℕ → List Pick → List ℕ → Pair
kind_variable group picks kind = record {
  name = group_name group ++ codes "_" ++ map to_ascii_uppercase kind;
  value = joined_with semicolon (needs_in group picks kind);
}

-- the variable with the types of resources that a group has
abbrev pub group_variable : ℕ → List (List ℕ) → Pair
group_variable group kinds = record { name = group_name group; value = joined_with comma kinds }

-- the variables of a group: its types, and one for each type
abbrev pub group_variables : List Pick → ℕ → List Pair
group_variables picks group =
    group_variable group (kinds_in group picks) ∷ map (kind_variable group picks) (kinds_in group picks)

-- the variables of this many groups: their count, and those of each group
abbrev pub placement_variables : ℕ → List Pick → List Pair
placement_variables groups picks =
    record { name = group_count; value = decimal groups }
    ∷ flat_map (group_variables picks) (range_with_len 0 groups)

-- the variables of a placement; none where no placement is given
abbrev pub given_variables : ℕ → Option Placement → List Pair
given_variables groups None = []
given_variables groups (Some placement) = placement_variables groups placement.picks
