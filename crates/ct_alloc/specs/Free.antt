-- What is used of each resource, and when picks name resources that are there.
-- Source: CMake manual, ctest(1), Resource Allocation.
use Rattle.std.specs.Prelude.{◌≡◌, ◌≤◌, ◌<◌, ◌-◌, ◌^◌, ℕ, Bool, true, List, length, map, nat_lt, slice_index}
use Rattle.std.specs.List.{list_all}
use Rattle.ct_base.specs.declared.defs.Need.{Need}
use Rattle.ct_base.specs.declared.defs.Resource.{Resource}
use Rattle.ct_alloc.specs.declared.placement.Pick.{Pick}
use Rattle.ct_alloc.specs.Placement.{SomeFits, fits_beside, is_placement}

-- the resources of a machine, and how many slots of each are used
pub record FreeValue : Type 0 where
  pub resources : List Resource
  pub used : List ℕ

-- the slots that are used of the resource at a place
abbrev pub used_at : FreeValue → ℕ → ℕ
used_at free place = slice_index free.used place

-- the slots of each resource
abbrev pub slot_counts : List Resource → List ℕ
slot_counts resources = map (λ (r : Resource). r.slots) resources

-- no resource has more slots in use than it has; slots and the number of resources fit in 32 bits
pub record IsWithinSlots (resources : List Resource) (used : List ℕ) : Type 0 where
  pub count : length used ≡ length resources
  pub few : length resources < 2 ^ 32 - 1
  pub bounded : (place : ℕ) → slice_index (slot_counts resources) place < 2 ^ 32
  pub within : (place : ℕ) → slice_index used place ≤ slice_index (slot_counts resources) place

-- the resource of each pick is there
abbrev pub are_there : List Resource → List Pick → Bool
are_there resources picks = list_all (λ (pick : Pick). nat_lt pick.resource (length resources)) picks

-- the picks are a placement for the needs that fits beside what is used
pub record IsFitting (free : FreeValue) (needs : List Need) (picks : List Pick) : Type 0 where
  pub placed : is_placement free.resources needs picks ≡ true
  pub fits : fits_beside free.resources (used_at free) picks ≡ true

-- no placement for the needs fits beside what is used
abbrev pub NoneFits : FreeValue → List Need → Type 0
NoneFits free needs = SomeFits free.resources needs (used_at free) → ⊥

-- the slots that are free of the resource at a place
abbrev pub free_at : FreeValue → ℕ → ℕ
free_at free place = slice_index (slot_counts free.resources) place - used_at free place
