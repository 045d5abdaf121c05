-- The values of commands that are read as words: names, keys with values, a list.
-- Source: CMake manual, set_tests_properties, set_directory_properties and set.
use Rattle.std.specs.Prelude.{ℕ, Bool, bytes_eq, codes, List, [], ◌∷◌, Option, Some, None, option_map, if◌then◌else◌}
use Rattle.std.specs.List.{join_with_byte}
use Rattle.ct_base.specs.Bytes.{semicolon}
use Rattle.ct_base.specs.declared.defs.Pair.{Pair}

-- the pairs of keys and values in turn; None where the last key has no value
abbrev pub pairs_of : List (List ℕ) → Option (List Pair)
pairs_of [] = Some []
pairs_of (key ∷ []) = None
pairs_of (key ∷ value ∷ more) =
    option_map (λ pairs. record { name = key; value = value } ∷ pairs) (pairs_of more)

-- the word PROPERTIES, behind which keys and values stand
abbrev pub is_properties : List ℕ → Bool
is_properties value = bytes_eq value (codes "PROPERTIES")

-- the values in front of the first PROPERTIES, and the keys and values behind it;
-- None without PROPERTIES, or where the last key has no value
abbrev pub names_and_pairs : List (List ℕ) → Option (List (List ℕ) × List Pair)
names_and_pairs [] = None
names_and_pairs (first ∷ values) =
    if is_properties first then option_map (λ pairs. ([], pairs)) (pairs_of values)
    else option_map (λ read. (first ∷ read.0, read.1)) (names_and_pairs values)

-- the keys and values behind PROPERTIES, if that is the first value
abbrev pub pairs_behind : List (List ℕ) → Option (List Pair)
pairs_behind [] = None
pairs_behind (first ∷ values) = if is_properties first then pairs_of values else None

-- the values with `;` between each two; None where there is no value
abbrev pub list_value : List (List ℕ) → Option (List ℕ)
list_value [] = None
list_value (value ∷ values) = Some (join_with_byte semicolon (value ∷ values))
