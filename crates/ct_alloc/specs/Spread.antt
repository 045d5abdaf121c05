-- The spread of needs over the resources of a machine: the place of the resource that meets each need.
-- Source: CMake manual, ctest(1), Resource Allocation.
use Rattle.std.specs.Prelude.{◌≡◌, ◌≤◌, ℕ, Bool, true, false, not, ◌&&◌, if◌then◌else◌, ◌+◌, drop, slice_index, List, [], ◌∷◌, map, slice_get, Option, Some, None, bytes_eq}
use Rattle.ct_base.specs.declared.defs.Need.{Need}
use Rattle.ct_base.specs.declared.defs.Resource.{Resource}
use Rattle.ct_alloc.specs.Free.{FreeValue, free_at}
use Rattle.ct_alloc.specs.Packing.{load}

-- the resource is there, and has this kind
abbrev pub is_of_kind : List ℕ → Option Resource → Bool
is_of_kind kind None = false
is_of_kind kind (Some resource) = bytes_eq resource.kind kind

-- there is one place for each need, with a resource of its kind
abbrev pub are_of_kind : List Resource → List Need → List ℕ → Bool
are_of_kind resources [] [] = true
are_of_kind resources [] (place ∷ places) = false
are_of_kind resources (need ∷ needs) [] = false
are_of_kind resources (need ∷ needs) (place ∷ places) =
    is_of_kind need.kind (slice_get resources place) && are_of_kind resources needs places

-- the slots of each need
abbrev pub sizes_of : List Need → List ℕ
sizes_of needs = map (λ (need : Need). need.slots) needs

-- the needs are met at these places, and take together no more of a resource than is free
pub record IsSpread (free : FreeValue) (needs : List Need) (places : List ℕ) : Type 0 where
  pub kinds : are_of_kind free.resources needs places ≡ true
  pub room : (place : ℕ) → load place (sizes_of needs) places ≤ free_at free place

-- no places meet the needs
abbrev pub NoneSpread : FreeValue → List Need → Type 0
NoneSpread free needs = (places : List ℕ) → IsSpread free needs places → ⊥

-- the resource at the place has the need's kind, and as many free slots as the need asks for
pub record HasRoom (free : FreeValue) (need : Need) (place : ℕ) : Type 0 where
  pub kind : is_of_kind need.kind (slice_get free.resources place) ≡ true
  pub room : need.slots ≤ free_at free place

-- the need has this kind
abbrev pub asks_kind : List ℕ → Need → Bool
asks_kind kind need = bytes_eq need.kind kind

-- the need has another kind
abbrev pub asks_other : List ℕ → Need → Bool
asks_other kind need = not (asks_kind kind need)

-- the places of the resources of a kind, if the first resource has this place
abbrev pub cards_from : ℕ → List ℕ → List Resource → List ℕ
cards_from place kind [] = []
cards_from place kind (resource ∷ resources) =
    if bytes_eq resource.kind kind
    then place ∷ cards_from (place + 1) kind resources
    else cards_from (place + 1) kind resources

-- the places for the needs of one kind and the places for
-- all other needs, merged in the order of the needs
abbrev pub interleaved : List ℕ → List Need → List ℕ → List ℕ → List ℕ
interleaved kind [] here rest = []
interleaved kind (need ∷ needs) here rest =
    if asks_kind kind need
    then slice_index here 0 ∷ interleaved kind needs (drop 1 here) rest
    else slice_index rest 0 ∷ interleaved kind needs here (drop 1 rest)
