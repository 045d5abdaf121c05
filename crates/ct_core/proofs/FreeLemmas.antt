-- What a placement that is right for a test takes of the free slots, and what it gives back.
use Rattle.std.proofs.Common.{◌≡◌, sym, subst, true, false, ℕ, ◌≤◌, List, [], ◌∷◌}
use Rattle.std.specs.Prelude.{Option, Some, None, IfSome}
use Rattle.std.proofs.lemmas.Bool.{and_parts}
use Rattle.ct_base.specs.declared.defs.Need.{Need}
use Rattle.ct_base.specs.declared.defs.Resource.{Resource}
use Rattle.ct_alloc.specs.declared.placement.Placement.{Placement}
use Rattle.ct_alloc.specs.Placement.{fits_beside, is_placement}
use Rattle.ct_alloc.specs.Free.{FreeValue, used_at}
use Rattle.ct_alloc.proofs.PlaceLemmas.{placed-there}
use Rattle.ct_history.specs.History.{placed_slots}
use Rattle.ct_history.specs.Rules.{is_placed}
use Rattle.ct_alloc.specs.Lent.{lent}
use Rattle.ct_core.specs.Slots.{used_of}
use Rattle.ct_core.specs.InUse.{HasFreeFor, HasTaken}

-- the resources of a right placement are there and have its slots free
pub free_for : (free : Option FreeValue) (needs : List Need) (placement : Option Placement) → is_placed (lent free) needs (used_of free) placement ≡ true → HasFreeFor free placement
free_for None needs None placed = tt
free_for None needs (Some p) placed = cc
free_for (Some free) needs None placed = tt
free_for (Some free) [] (Some p) placed = cc
free_for (Some free) (need ∷ needs) (Some p) placed =
    let both = and_parts (is_placement free.resources (need ∷ needs) p.picks) (fits_beside free.resources (used_at free) p.picks) placed in
    (placed-there free.resources (need ∷ needs) p.picks both.0, both.1)

-- a placement that was right once can be given back, if its slots are among those in use
pub taken_for : (free : Option FreeValue) (resources : Option (List Resource)) (needs : List Need) (used : ℕ → ℕ) (placement : Option Placement) → lent free ≡ resources → is_placed resources needs used placement ≡ true → ((place : ℕ) → placed_slots place placement ≤ used_of free place) → HasTaken free placement
taken_for None resources needs used None same placed most = tt
taken_for None resources needs used (Some p) same placed most =
    let none : is_placed None needs used (Some p) ≡ true = subst (λ (o : Option (List Resource)). is_placed o needs used (Some p) ≡ true) (sym same) placed in
    let no : false ≡ true = none in
    cc
taken_for (Some free) resources needs used None same placed most = tt
taken_for (Some free) resources [] used (Some p) same placed most =
    let no : false ≡ true = subst (λ (o : Option (List Resource)). is_placed o [] used (Some p) ≡ true) (sym same) placed in
    cc
taken_for (Some free) resources (need ∷ needs) used (Some p) same placed most =
    let here : is_placed (Some free.resources) (need ∷ needs) used (Some p) ≡ true = subst (λ (o : Option (List Resource)). is_placed o (need ∷ needs) used (Some p) ≡ true) (sym same) placed in
    let both = and_parts (is_placement free.resources (need ∷ needs) p.picks) (fits_beside free.resources used p.picks) here in
    (placed-there free.resources (need ∷ needs) p.picks both.0, most)

-- whether a placement is right depends only on the slots that are used of each resource
pub placed_beside : (resources : Option (List Resource)) (needs : List Need) (used other : ℕ → ℕ) (placement : Option Placement) → ((place : ℕ) → used place ≡ other place) → is_placed resources needs used placement ≡ true → is_placed resources needs other placement ≡ true
placed_beside resources needs used other placement same placed =
    let all : used ≡ other = λ j place. same place j in
    subst (λ (f : ℕ → ℕ). is_placed resources needs f placement ≡ true) all placed

-- the slots that are used of each resource, if resources are given
pub used_if_some : (free : Option FreeValue) (used : ℕ → ℕ) → ((place : ℕ) → used_of free place ≡ used place) → IfSome free (λ f. (place : ℕ) → used_at f place ≡ used place)
used_if_some None used same = tt
used_if_some (Some free) used same = same
