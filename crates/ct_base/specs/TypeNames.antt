-- The names of resource types. Source: CMake manual, ctest(1), Resource Specification File.
use Rattle.std.specs.Prelude.{ℕ, Bool, false, List, [], ◌∷◌, ◌&&◌, ◌||◌, ◌==◌}
use Rattle.std.specs.List.{list_all}
use Rattle.std.specs.Char.{is_ascii_digit, is_ascii_lowercase}
use Rattle.ct_base.specs.Bytes.{underscore}

-- a byte that the name of a resource type begins with: `a` to `z` or `_`
abbrev pub begins_type : ℕ → Bool
begins_type byte = is_ascii_lowercase byte || byte == underscore

-- a byte that a name goes on with, and a byte of an id: `a` to `z`, `_` or a digit
abbrev pub is_name_byte : ℕ → Bool
is_name_byte byte = begins_type byte || is_ascii_digit byte

-- the text is the name of a resource type
abbrev pub is_type_name : List ℕ → Bool
is_type_name [] = false
is_type_name (first ∷ rest) = begins_type first && list_all is_name_byte rest
