-- The tests that were found, each marked, and what is known of lists of names. This project's own.
use Rattle.std.specs.Prelude.{◌≡◌, ℕ, ◌<◌, Bool, true, false, List, [], All, length, map, slice_index_or, Some}
use Rattle.std.specs.List.Sorted.{IsStrictlyIncreasing}
use Rattle.std.specs.Map.{lookup}
use Rattle.std.specs.Ordering.{nat_cmp, is_eq}
use Rattle.std.specs.declared.cmp.Ordering.{Ordering}
use Rattle.std.specs.Cmp.Lexicographic.{slice_cmp}
use Rattle.std.specs.Borrow.{Bor}
use Rattle.std.specs.declared.vec.Vec.{Vec}
use Rattle.ct_base.specs.Numbers.{is_in}
use Rattle.ct_graph.specs.ByName.{is_found_in}
use Rattle.ct_graph.specs.declared.found.Found.{Found}
use Rattle.ct_graph.specs.declared.known.Known.{Known}

-- each of these tests has a place among the marks, and only they are marked
pub record AreMarked (marks : List Bool) (tests : List ℕ) : Type 0 where
  pub within : All (λ n. n < length marks) tests
  pub marked : (n : ℕ) → slice_index_or marks n false ≡ true → is_in tests n ≡ true

-- only the tests that were found are marked
abbrev pub IsMarked : Found → Type 0
IsMarked found = AreMarked found.marks.items found.tests.items

-- no test was found, and none is marked
pub record IsEmpty (found : Found) : Type 0 where
  pub marked : IsMarked found
  pub none : found.tests.items ≡ []

-- these are the tests that the names find, in order and without repeats
pub record AreFound (find : List ℕ → List ℕ) (names : List (List ℕ)) (tests : List ℕ) : Type 0 where
  pub ascending : IsStrictlyIncreasing tests
  pub same : (n : ℕ) → is_in tests n ≡ is_found_in find names n

-- the bytes of names
abbrev pub bytes_of : List (Bor (List ℕ)) → List (List ℕ)
bytes_of names = map (λ (name : Bor (List ℕ)). name.now) names

-- how lists of names compare
abbrev pub names_cmp : List (Bor (List ℕ)) → List (Bor (List ℕ)) → Ordering
names_cmp names others = slice_cmp (λ (x y : Bor (List ℕ)). slice_cmp nat_cmp x.now y.now) names others

-- the tests that a map keeps for a list of names are those that the names find
abbrev pub KnowsIn : {Y : Type 0} → (List ℕ → List ℕ) → List (Vec (Bor (List ℕ)) Y × List ℕ) → Type 0
KnowsIn {Y} find entries =
    (names : Vec (Bor (List ℕ)) Y) (tests : List ℕ)
    → lookup (λ (key : Vec (Bor (List ℕ)) Y). is_eq (names_cmp names.items key.items)) entries ≡ Some tests
    → AreFound find (bytes_of names.items) tests

-- the tests that are known for a list of names are those that the names find
abbrev pub Knows : (List ℕ → List ℕ) → Known → Type 0
Knows find known = KnowsIn find known.tests.entries
