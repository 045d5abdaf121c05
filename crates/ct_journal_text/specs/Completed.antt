-- The placement that the places of a start stand for, by the test's needs and the plan's resources. This
-- project's own.
use Rattle.std.specs.Prelude.{ℕ, ◌≡◌, ◌↔◌, true, List, [], ◌∷◌, Option, Some, None, slice_get, bytes_eq, if◌then◌else◌}
use Rattle.ct_base.specs.declared.defs.Need.{Need}
use Rattle.ct_base.specs.declared.defs.Resource.{Resource}
use Rattle.ct_alloc.specs.declared.placement.Pick.{Pick}
use Rattle.ct_alloc.specs.declared.placement.Placement.{Placement}
use Rattle.ct_alloc.specs.Placement.{is_placement}
use Rattle.ct_journal_text.specs.Journal.{places_of_placement}

-- a placement is found exactly where it is one for the needs, and its resources have these places
abbrev pub IsPlacementAt : List Resource → List Need → List ℕ → Option Placement → Type 0
IsPlacementAt resources needs places found =
    (placement : Placement) → (found ≡ Some placement)
    ↔ ((is_placement resources needs placement.picks ≡ true) × (places ≡ places_of_placement placement))

-- the pick that meets a need with the resource at a place, where there is one of the need's kind
abbrev pub pick_by : Need → ℕ → Option Resource → Option Pick
pick_by need place None = None
pick_by need place (Some resource) =
    if bytes_eq need.kind resource.kind
    then Some
    (record { group = need.group; kind = need.kind; id = resource.id; slots = need.slots; resource = place })
    else None

-- a pick with others behind it, where there are all of them
abbrev pub with_pick : Option Pick → Option (List Pick) → Option (List Pick)
with_pick None others = None
with_pick (Some pick) None = None
with_pick (Some pick) (Some picks) = Some (pick ∷ picks)

-- the picks that meet the needs with the resources at these places, one for each, where there are all of them
abbrev pub picks_by : List Resource → List Need → List ℕ → Option (List Pick)
picks_by resources [] [] = Some []
picks_by resources [] (place ∷ places) = None
picks_by resources (need ∷ needs) [] = None
picks_by resources (need ∷ needs) (place ∷ places) =
    with_pick (pick_by need place (slice_get resources place)) (picks_by resources needs places)

-- the placement of these picks
abbrev pub of_picks : List Pick → Placement
of_picks picks = record { picks = picks }
