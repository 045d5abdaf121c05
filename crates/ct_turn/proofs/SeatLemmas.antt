-- Lists of seats, one of which has changed.
use Rattle.std.proofs.Common.{◌≡◌, ◌∙◌, sym, ap, refl, ℕ, zero, suc, List, [], ◌∷◌, ◌++◌, length, map, set, inl, inr, ⊎_elim, ◌⊎◌}
use mathlib.Core.Option.{some, some-injective, some-ne-none}
use lib.ListN.{get_elem?}
use Rattle.std.proofs.lemmas.List.{map-set}
use Rattle.atomic_table.proofs.Lists.{at_map, set_again}
use Rattle.atomic_table.specs.Table.{rest}
use Rattle.ct_turn.specs.declared.view.View.{View}
use Rattle.ct_turn.specs.Rule.{known_at}

-- what is put in a place that exists stands there
pub set_there : {A : Type 0} (l : List A) (i : ℕ) (a b : A) → get_elem? l i ≡ some a → get_elem? (set l i b) i ≡ some b
set_there [] i a b e = absurd (some-ne-none a (sym e))
set_there (x ∷ xs) zero a b e = refl
set_there (x ∷ xs) (suc i) a b e = set_there xs i a b e

-- a seat that is replaced by one that knows the same leaves what the seats know
pub same_known : (views : List View) (id : ℕ) (v w : View) → get_elem? views id ≡ some v → w.known ≡ v.known → map known_at (set views id w) ≡ map known_at views
same_known views id v w here same =
    map-set known_at views id w ∙ ap (λ k. set (map known_at views) id k) same ∙ set_again (map known_at views) id v.known (at_map known_at views id v here)

-- a list of one element has place 0 alone
pub only_one : {A : Type 0} (a b : A) (j : ℕ) → get_elem? (a ∷ []) j ≡ some b → (j ≡ 0) × (a ≡ b)
only_one a b zero e = (refl, some-injective a b e)
only_one a b (suc j) e = absurd (some-ne-none b (sym e))

-- a list is its first element and the rest
pub headed : {S : Type 0} (l ls : List (ℕ × S)) (a : ℕ × S) → l ≡ a ∷ ls → l ≡ a ∷ rest l
headed {S = S} l ls a e = e ∙ ap (λ (r : List (ℕ × S)). a ∷ rest r) (sym e)

-- an element of a longer list is one of the list, or stands behind it
pub at_behind : {A : Type 0} (l : List A) (a b : A) (j : ℕ) → get_elem? (l ++ a ∷ []) j ≡ some b → (get_elem? l j ≡ some b) ⊎ ((j ≡ length l) × (a ≡ b))
at_behind [] a b zero e = inr (refl, some-injective a b e)
at_behind [] a b (suc j) e = absurd (some-ne-none b (sym e))
at_behind (x ∷ xs) a b zero e = inl e
at_behind (x ∷ xs) a b (suc j) e = ⊎_elim (λ there. inl there) (λ last. inr (ap suc last.0, last.1)) (at_behind xs a b j e)
