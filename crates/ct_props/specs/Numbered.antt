-- What a list has for a test, by its number. This project's own.
use Rattle.std.specs.Prelude.{ℕ, zero, suc, List, Option, None, slice_get}

-- what a list has for the test with this number; numbers count from 1
abbrev pub at_number : {X : Type 0} → List X → ℕ → Option X
at_number items zero = None
at_number items (suc place) = slice_get items place
