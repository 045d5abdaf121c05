-- The parts of a history for several trees, one for each tree. This project's own.
use Rattle.std.specs.Prelude.{◌≡◌, ⊤, ℕ, ◌+◌, ◌||◌, Bool, true, false, List, [], ◌∷◌, map}
use Rattle.ct_history.specs.declared.history.Entry.{Entry}
use Rattle.ct_history.specs.declared.history.History.{History}
use Rattle.ct_history.specs.Legal.{has_failing}
use Rattle.ct_history.specs.Verdicts.{are_all_final}
use Rattle.ct_trees.specs.declared.joining.TreeRest.{TreeRest}
use Rattle.ct_trees.specs.TreeReports.{tree_part}

-- the part of a history for each of these trees, the first of which stands behind so many tests of other
-- trees
abbrev pub parts_behind : ℕ → List TreeRest → List Entry → List (List Entry)
parts_behind offset [] entries = []
parts_behind offset (tree ∷ trees) entries =
    tree_part offset tree entries ∷ parts_behind (offset + tree.defined) trees entries

-- the entries of each of these histories
abbrev pub entries_of_each : List History → List (List Entry)
entries_of_each histories = map (λ (history : History). history.entries.items) histories

-- there is one part for each tree, and each test of the tree's plan is final in it
abbrev pub AreEnded : List TreeRest → List (List Entry) → Type 0
AreEnded [] [] = ⊤
AreEnded [] (part ∷ parts) = ⊥
AreEnded (tree ∷ trees) [] = ⊥
AreEnded (tree ∷ trees) (part ∷ parts) = (are_all_final tree.plan part ≡ true) × AreEnded trees parts

-- a test of some tree failed in the tree's part
abbrev pub some_failing : List TreeRest → List (List Entry) → Bool
some_failing [] parts = false
some_failing (tree ∷ trees) [] = false
some_failing (tree ∷ trees) (part ∷ parts) = has_failing tree.plan part || some_failing trees parts
