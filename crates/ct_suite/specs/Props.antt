-- What contracts see of the properties of a test that are kept by their keys.
use Rattle.std.specs.Prelude.{ℕ, Bool, List, bytes_eq, not}
use Rattle.std.specs.declared.vec.Vec.{Vec}
use Rattle.ct_base.specs.declared.defs.Pair.{Pair}

-- a property that is kept by its key
abbrev pub prop_of : {Z : Type 0} → Vec ℕ Z × List ℕ → Pair
prop_of entry = record { name = entry.0.items; value = entry.1 }

-- the property has another key
abbrev pub is_other : List ℕ → Pair → Bool
is_other key prop = not (bytes_eq key prop.name)
