-- What holds of each element of a list holds of all of it, one element after the other.
use Rattle.std.proofs.Common.{ℕ, ◌+◌, ◌<◌, ◌≤◌, ◌≡◌, List, [], ◌∷◌, drop, get_or, length, map, sym, ap, ◌∙◌, subst}
use Rattle.std.specs.List.{AllByRecursion}
use Rattle.std.proofs.lemmas.List.{drop_all, drop_more}
use Rattle.ct_alloc.specs.declared.placement.Pick.{Pick}
use Rattle.ct_journal_text.specs.Journal.{IsOf32Bits}

module _ {X : Type 0} (P : X → Type 0) (xs : List X) where
  -- it holds of all, if it does of those that are left
  abbrev pub HoldIfRest : ℕ → Type 0
  HoldIfRest at = AllByRecursion P (drop at xs) → AllByRecursion P xs

  -- one element more
  pub hold_more : (at : ℕ) (x : X) → at < length xs → x ≡ get_or xs at x → P x → HoldIfRest at → HoldIfRest (at + 1)
  hold_more at x lt is one so_far = λ rest. (
      let next : drop at xs ≡ x ∷ drop (at + 1) xs = drop_more xs at x lt ∙ ap (λ y. y ∷ drop (at + 1) xs) (sym is) in
      so_far (subst (AllByRecursion P) (sym next) (one, rest)))

  -- none is left
  pub hold_all : (at : ℕ) → length xs ≤ at → HoldIfRest at → AllByRecursion P xs
  hold_all at done so_far = so_far (subst (AllByRecursion P) (sym (drop_all at xs done)) tt)

-- the places of picks are in their range, if the picks have such places
pub picks_hold : (picks : List Pick) → AllByRecursion (λ (pick : Pick). IsOf32Bits pick.resource) picks → AllByRecursion IsOf32Bits (map (λ (pick : Pick). pick.resource) picks)
picks_hold [] hold = tt
picks_hold (pick ∷ picks) hold = (hold.0, picks_hold picks hold.1)
