-- The next tree of a list, and the next of the parts of its trees.
use Rattle.std.proofs.Common.{◌≡◌, ◌∙◌, sym, ap, subst, ℕ, ◌+◌, ◌<◌, List, ◌∷◌, length, drop, get_or}
use Rattle.std.proofs.lemmas.List.{drop_more}
use Rattle.ct_history.specs.declared.history.Entry.{Entry}
use Rattle.ct_history.specs.declared.history.History.{History}
use Rattle.ct_plan.proofs.WholeLemmas.{trees_from}
use Rattle.ct_trees.specs.declared.joining.TreeRest.{TreeRest}
use Rattle.ct_trees.specs.TreeParts.{entries_of_each}

-- what holds of the trees and the parts from a place on holds of the next ones and those behind them
pub both_from : (trees : List TreeRest) (parts : List History) (at : ℕ) (tree : TreeRest) (part : History) → at < length trees → tree ≡ get_or trees at tree → at < length parts → part ≡ get_or parts at part → (P : List TreeRest → List (List Entry) → Type 0) → P (drop at trees) (entries_of_each (drop at parts)) → P (tree ∷ drop (at + 1) trees) (part.entries.items ∷ entries_of_each (drop (at + 1) parts))
both_from trees parts at tree part within tree_is there part_is P is =
    subst (λ (ts : List TreeRest). P ts (part.entries.items ∷ entries_of_each (drop (at + 1) parts))) (trees_from trees at tree within tree_is)
    (subst (λ (ps : List (List Entry)). P (drop at trees) ps) (ap entries_of_each (drop_more parts at part there ∙ ap (λ (h : History). h ∷ drop (at + 1) parts) (sym part_is))) is)
