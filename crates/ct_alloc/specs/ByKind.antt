-- The places of resources by their kinds: what a look-up of a kind returns. Source: this project's own.
use Rattle.std.specs.Prelude.{◌≡◌, ℕ, List, bytes_eq}
use Rattle.std.specs.declared.vec.Vec.{Vec}
use Rattle.indexmap.specs.IndexMap.{IndexMap, get_by}
use Rattle.ct_base.specs.declared.defs.Resource.{Resource}
use Rattle.ct_alloc.specs.Spread.{cards_from}
use Rattle.ct_base.specs.Found.{or_none}

-- the places that are kept for a kind
abbrev pub places_for : {Y Z S : Type 0} → IndexMap (Vec ℕ Y) (Vec ℕ Z) S → List ℕ → List ℕ
places_for {Y} by_kind kind = or_none (get_by (λ (name : Vec ℕ Y). bytes_eq kind name.items) by_kind)

-- the map has for each kind the places of its resources, in order
abbrev pub AreByKind : {Y Z S : Type 0} → List Resource → IndexMap (Vec ℕ Y) (Vec ℕ Z) S → Type 0
AreByKind resources by_kind = (kind : List ℕ) → places_for by_kind kind ≡ cards_from 0 kind resources
