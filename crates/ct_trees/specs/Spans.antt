-- The numbers of the tests of each tree among those of all trees. This project's own.
use Rattle.std.specs.Prelude.{◌≡◌, ⊤, ℕ, ◌+◌, true, false, List, [], ◌∷◌, map, nat_lt}
use Rattle.std.specs.List.Sorted.{IsPartitionPoint}
use Rattle.ct_history.specs.declared.history.Entry.{Entry}
use Rattle.ct_history.specs.declared.history.Entry.TheVariants.{Start, End, Settle, Stop}
use Rattle.ct_history.specs.Parts.{part_of}
use Rattle.ct_trees.specs.declared.joining.TreeRest.{TreeRest}
use Rattle.ct_trees.specs.declared.tree_parts.Span.{Span}

-- the spans of these trees, the first of which stands behind so many tests of other trees
abbrev pub spans_behind : ℕ → List TreeRest → List Span
spans_behind offset [] = []
spans_behind offset (tree ∷ trees) =
    (record { offset = offset; count = tree.defined }) ∷ spans_behind (offset + tree.defined) trees

-- the last number of a span
abbrev pub last_of_span : Span → ℕ
last_of_span span = span.offset + span.count

-- each span begins where the one in front of it ends, and the first one behind so many tests
abbrev pub FollowFrom : ℕ → List Span → Type 0
FollowFrom offset [] = ⊤
FollowFrom offset (span ∷ spans) = (span.offset ≡ offset) × FollowFrom (last_of_span span) spans

-- the part of a history for each span
abbrev pub parts_in : List Span → List Entry → List (List Entry)
parts_in spans entries = map (λ (span : Span). part_of span.offset span.count entries) spans

-- the number of the test of an entry; a Stop has none, which counts as 0
abbrev pub test_in_entry : Entry → ℕ
test_in_entry (Start test attempt worker placement) = test
test_in_entry (End test attempt worker seen) = test
test_in_entry (Settle test cause) = test
test_in_entry Stop = 0

-- the spans in front of the place end in front of the test, and the others do not
abbrev pub IsSpanPlace : ℕ → List Span → ℕ → Type 0
IsSpanPlace test spans place =
    IsPartitionPoint (λ span. nat_lt (last_of_span span) test ≡ true)
    (λ span. nat_lt (last_of_span span) test ≡ false) spans place
