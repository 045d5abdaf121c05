-- The sets of live positions that a scan has met. Internal to the matcher.
use Rattle.std.specs.Prelude.{ℕ, Bool, List, [], Option, Some, None, slice_get}
use Rattle.ct_regex.specs.declared.memory.Met.{Met}

-- the marks of a set; no marks where there is no set
abbrev pub marks_of_met : Option Met → List Bool
marks_of_met None = []
marks_of_met (Some met) = met.marks.items

-- the marks of the set with a number, in a list of sets
abbrev pub marks_in : List Met → ℕ → List Bool
marks_in sets at = marks_of_met (slice_get sets at)
