-- What a look-up found. This project's own.
use Rattle.std.specs.Prelude.{ℕ, List, [], Option, Some, None}
use Rattle.std.specs.declared.vec.Vec.{Vec}

-- the numbers of a vector, or none where there is no vector
abbrev pub or_none : {Y : Type 0} → Option (Vec ℕ Y) → List ℕ
or_none None = []
or_none (Some numbers) = numbers.items
