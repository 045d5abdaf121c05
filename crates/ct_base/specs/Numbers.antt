-- Whether a number stands in a list. This project's own.
use Rattle.std.specs.Prelude.{ℕ, Bool, List, ◌==◌}
use Rattle.std.specs.List.{list_any}

-- the number is one of these numbers
abbrev pub is_in : List ℕ → ℕ → Bool
is_in numbers number = list_any (λ n. n == number) numbers
