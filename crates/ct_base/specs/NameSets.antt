-- Sets of names that are looked up by their bytes. This project's own.
use Rattle.std.specs.Prelude.{◌≡◌, ℕ, Bool, List}
use Rattle.std.specs.Ordering.{nat_cmp}
use Rattle.std.specs.Cmp.Lexicographic.{slice_cmp}
use Rattle.std.specs.Borrow.{Bor}
use Rattle.std.specs.BTreeSet.{BTreeSet, contains_by}
use Rattle.ct_base.specs.Names.{is_among}

-- the set has the name
abbrev pub contains_name : BTreeSet (Bor (List ℕ)) → List ℕ → Bool
contains_name set name = contains_by (λ (key : Bor (List ℕ)). slice_cmp nat_cmp name key.now) set

-- the set has these names and no others
abbrev pub AreNames : List (List ℕ) → BTreeSet (Bor (List ℕ)) → Type 0
AreNames names set = (name : List ℕ) → contains_name set name ≡ is_among name names
