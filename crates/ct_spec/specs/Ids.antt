-- The ids that earlier entries of a kind have. This project's own.
use Rattle.std.specs.Prelude.{◌≡◌, ℕ, List}
use Rattle.ct_base.specs.Names.{is_among}

-- both lists have the same ids, in any order
abbrev pub AreIds : List (List ℕ) → List (List ℕ) → Type 0
AreIds ids taken = (id : List ℕ) → is_among id ids ≡ is_among id taken
