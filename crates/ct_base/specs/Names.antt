-- Names among names. This project's own.
use Rattle.std.specs.Prelude.{ℕ, Bool, List, [], ◌∷◌, ◌++◌, bytes_eq, fold, if◌then◌else◌}
use Rattle.std.specs.List.{list_any}

-- the name is one of these names
abbrev pub is_among : List ℕ → List (List ℕ) → Bool
is_among name others = list_any (λ other. bytes_eq name other) others

-- the names with one more behind them, unless it is among them
abbrev pub with_new_name : List (List ℕ) → List ℕ → List (List ℕ)
with_new_name names name = if is_among name names then names else names ++ name ∷ []

-- each of these names once, at its first place
abbrev pub each_once : List (List ℕ) → List (List ℕ)
each_once names = fold with_new_name [] names

-- some name stands in both lists
abbrev pub shares_name : List (List ℕ) → List (List ℕ) → Bool
shares_name names others = list_any (λ name. is_among name others) names
