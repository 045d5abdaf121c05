-- Names, each once, in byte order. This project's own.
use Rattle.std.specs.Prelude.{ℕ, List, [], fold}
use Rattle.std.specs.Ordering.{nat_cmp}
use Rattle.std.specs.Cmp.Lexicographic.{slice_cmp}
use Rattle.std.specs.BTreeSet.{insert_key}

-- some names, each once, in byte order
abbrev pub names_in_order : List (List ℕ) → List (List ℕ)
names_in_order names = fold (insert_key (slice_cmp nat_cmp)) [] names
