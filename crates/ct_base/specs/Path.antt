-- Paths. This project's own.
use Rattle.std.specs.Prelude.{ℕ, List, [], ◌∷◌, ◌++◌, Bool, false, ◌==◌, if◌then◌else◌}
use Rattle.ct_base.specs.Bytes.{slash}

-- the path begins with `/`
abbrev pub is_absolute : List ℕ → Bool
is_absolute [] = false
is_absolute (first ∷ _) = first == slash

-- the name if it is absolute, else the folder, a `/` and the name
abbrev pub joined : List ℕ → List ℕ → List ℕ
joined dir name = if is_absolute name then name else dir ++ slash ∷ [] ++ name
