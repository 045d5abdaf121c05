-- When a placement meets a test's needs, and when it fits beside what is used.
-- Source: CMake manual, ctest(1), Resource Allocation. One pick for each need is this project's choice.
use Rattle.std.specs.Prelude.{◌≡◌, ℕ, ◌+◌, Bool, true, false, ◌&&◌, List, [], ◌∷◌, filter, sum_by, Option, Some, None, slice_get, bytes_eq, nat_le, ◌==◌}
use Rattle.ct_base.specs.declared.defs.Need.{Need}
use Rattle.ct_base.specs.declared.defs.Resource.{Resource}
use Rattle.ct_alloc.specs.declared.placement.Pick.{Pick}

-- the resource is there, and the pick names it by kind and id
abbrev pub names_resource : Pick → Option Resource → Bool
names_resource pick None = false
names_resource pick (Some resource) = bytes_eq resource.kind pick.kind && bytes_eq resource.id pick.id

-- the pick meets the need: the same group, kind and slots, on a resource that is there and that it names
abbrev pub meets : List Resource → Need → Pick → Bool
meets resources need pick =
    need.group == pick.group
    && bytes_eq need.kind pick.kind
    && need.slots == pick.slots
    && names_resource pick (slice_get resources pick.resource)

-- the picks are a placement for the needs: one pick for each need, in order
abbrev pub is_placement : List Resource → List Need → List Pick → Bool
is_placement resources [] [] = true
is_placement resources [] (pick ∷ picks) = false
is_placement resources (need ∷ needs) [] = false
is_placement resources (need ∷ needs) (pick ∷ picks) =
    meets resources need pick && is_placement resources needs picks

-- the slots that these picks take together of the resource at a place
abbrev pub slots_at : ℕ → List Pick → ℕ
slots_at place picks = sum_by (λ (p : Pick). p.slots) (filter (λ (p : Pick). p.resource == place) picks)

-- for each resource, from this place on, the used slots and
-- the slots of the picks are together at most its slots
abbrev pub fits_from : ℕ → List Resource → (ℕ → ℕ) → List Pick → Bool
fits_from place [] used picks = true
fits_from place (resource ∷ resources) used picks =
    nat_le (used place + slots_at place picks) resource.slots && fits_from (place + 1) resources used picks

-- the picks fit: the used slots and the slots of the picks
-- are together at most the slots of each resource
abbrev pub fits_beside : List Resource → (ℕ → ℕ) → List Pick → Bool
fits_beside resources used picks = fits_from 0 resources used picks

-- some placement for the needs fits beside what is used of each resource
pub record SomeFits (resources : List Resource) (needs : List Need) (used : ℕ → ℕ) : Type 0 where
  pub picks : List Pick
  pub placed : is_placement resources needs picks ≡ true
  pub fits : fits_beside resources used picks ≡ true
