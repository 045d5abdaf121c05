-- What is done to variables that are kept by their names. This project's own.
use Rattle.std.specs.Prelude.{ℕ, ◌≡◌, bytes_eq, List, map, Option, if◌then◌else◌}
use Rattle.std.specs.Option.{option_or}
use Rattle.std.specs.declared.vec.Vec.{Vec}
use Rattle.ct_base.specs.Memory.{held_by}
use Rattle.ct_base.specs.declared.defs.Pair.{Pair}
use Rattle.ct_props.specs.Values.{value_of_key}
use Rattle.ct_env.specs.Modification.{Change}
use Rattle.ct_env.specs.Environment.{after_change, after_entries, base_value}

-- a variable that is kept by its name
abbrev pub pair_of : {Y Z : Type 0} → Vec ℕ Y × Vec ℕ Z → Pair
pair_of entry = record { name = entry.0.items; value = entry.1.items }

-- the names that a set keeps
abbrev pub names_in : {Y : Type 0} → List (Vec ℕ Y) → List (List ℕ)
names_in kept = map (λ name. name.items) kept

-- a variable has this value or, with None, is not set, and the others are as they were
abbrev pub PutsVariable : List ℕ → Option (List ℕ) → List Pair → List Pair → Type 0
PutsVariable name value before after =
    (other : List ℕ)
    → value_of_key after other ≡ (if bytes_eq name other then value else value_of_key before other)

-- the variables of these pairs are set, and the others are as they were
abbrev pub SetsAll : List Pair → List Pair → List Pair → Type 0
SetsAll pairs before after =
    (name : List ℕ) → value_of_key after name ≡ option_or (held_by pairs name) (value_of_key before name)

-- each variable has the value that it has after a change
abbrev pub Changes : List Pair → Option Change → List Pair → List Pair → Type 0
Changes base change before after =
    (name : List ℕ)
    → value_of_key after name ≡ after_change name (value_of_key base name) (value_of_key before name) change

-- each variable is changed by these entries in turn
abbrev pub ChangesAll : List Pair → List (List ℕ) → List Pair → List Pair → Type 0
ChangesAll base entries before after =
    (name : List ℕ)
    → value_of_key after name ≡ after_entries name (value_of_key base name) (value_of_key before name) entries

-- each variable has its base value
abbrev pub AreBase : List Pair → List (List ℕ) → List Pair → Type 0
AreBase own entries variables = (name : List ℕ) → value_of_key variables name ≡ base_value own entries name
