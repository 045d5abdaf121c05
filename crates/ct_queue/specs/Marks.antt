-- Marks on places, and the binary tree that finds the least of them. This project's own.
use Rattle.std.specs.Prelude.{◌≡◌, ℕ, ◌+◌, ◌*◌, ◌/◌, ◌<◌, ◌≤◌, Bool, true, false, ◌||◌, List, length, drop, slice_index_or, slice_set, Option, Some, None, MatchOption}
use Rattle.std.specs.Int.{IsPowerOfTwo}

-- the place is marked
abbrev pub is_marked : List Bool → ℕ → Bool
is_marked marks place = slice_index_or marks place false

-- the same marks, but for the mark of this place, if one is given
abbrev pub with_mark : List Bool → Option ℕ → Bool → List Bool
with_mark marks None mark = marks
with_mark marks (Some place) mark = slice_set marks place mark

-- no place from `from` on is marked, among the places from `low` on and before `end`
abbrev pub NoneWithin : List Bool → ℕ → ℕ → ℕ → Type 0
NoneWithin marks from low end =
    (place : ℕ) → from ≤ place → low ≤ place → place < end → is_marked marks place ≡ false

-- the least marked place from `from` on, among the places from `low` on and before `end`
pub record IsLeastWithin (marks : List Bool) (from low end place : ℕ) : Type 0 where
  pub from_there : from ≤ place
  pub low_there : low ≤ place
  pub before_end : place < end
  pub marked : is_marked marks place ≡ true
  pub least : NoneWithin marks from low place

-- the answer of a search: the least marked place, or none if no place is marked
abbrev pub IsFirstWithin : List Bool → ℕ → ℕ → ℕ → Option ℕ → Type 0
IsFirstWithin marks from low end found =
    MatchOption found (NoneWithin marks from low end) (IsLeastWithin marks from low end)

-- the marks of the places: the second half of the nodes
abbrev pub marks_of : List Bool → List Bool
marks_of nodes = drop (length nodes / 2) nodes

-- a binary tree, stored like a heap: a node above others is marked if one of them is
pub record IsTree (nodes : List Bool) : Type 0 where
  pub even : length nodes ≡ 2 * (length nodes / 2)
  pub power : IsPowerOfTwo (length nodes / 2)
  pub inner : (node : ℕ) → 0 < node → node < length nodes / 2
      → is_marked nodes node ≡ (is_marked nodes (2 * node) || is_marked nodes (2 * node + 1))
