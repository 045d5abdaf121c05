-- Placements and the places of their picks: a placement fits exactly if the needs are met at its places.
use Rattle.std.proofs.Common.{◌≡◌, ◌∙◌, sym, ap, subst, refl, ℕ, zero, suc, ◌+◌, ◌<◌, ◌≤◌, Bool, true, false, cond, ◌==◌, List, [], ◌∷◌, ◌++◌, length, map, take, get_or, arith, nat_lt}
use Rattle.std.specs.Prelude.{◌&&◌, slice_get, Option, Some, None, bytes_eq}
use Rattle.std.proofs.lemmas.List.{map-append, take_all, take_more}
use Rattle.std.proofs.lemmas.Bool.{and_parts, and_from}
use Rattle.std.proofs.lemmas.Bool.Decides.{nat_tests}
use Rattle.std.proofs.lemmas.Slice.Eq.{bytes_eq-Decides}
use Rattle.ct_base.specs.declared.defs.Need.{Need}
use Rattle.ct_base.specs.declared.defs.Resource.{Resource}
use Rattle.ct_alloc.specs.declared.placement.Pick.{Pick}
use Rattle.ct_alloc.specs.Placement.{fits_beside, is_placement, meets, names_resource, slots_at}
use Rattle.ct_alloc.specs.Free.{FreeValue, IsFitting, IsWithinSlots, NoneFits, are_there, free_at, slot_counts, used_at}
use Rattle.ct_alloc.specs.Packing.{load}
use Rattle.ct_alloc.specs.Spread.{IsSpread, NoneSpread, are_of_kind, is_of_kind, sizes_of}
use Rattle.ct_alloc.proofs.PickLemmas.{each-fits, fits-each, none-beyond, slots-cons}

-- what holds of a pick that meets a need
pub record Meets (resources : List Resource) (need : Need) (pick : Pick) : Type 0 where
  pub group : (need.group == pick.group) ≡ true
  pub kind : bytes_eq need.kind pick.kind ≡ true
  pub slots : (need.slots == pick.slots) ≡ true
  pub named : names_resource pick (slice_get resources pick.resource) ≡ true

pub meets-parts : (resources : List Resource) (need : Need) (pick : Pick) → meets resources need pick ≡ true → Meets resources need pick
meets-parts resources need pick all =
    let three = and_parts (need.group == pick.group && bytes_eq need.kind pick.kind && need.slots == pick.slots) (names_resource pick (slice_get resources pick.resource)) all in
    let two = and_parts (need.group == pick.group && bytes_eq need.kind pick.kind) (need.slots == pick.slots) three.0 in
    let one = and_parts (need.group == pick.group) (bytes_eq need.kind pick.kind) two.0 in
    record { group = one.0; kind = one.1; slots = two.1; named = three.1 }

pub meets-from : (resources : List Resource) (need : Need) (pick : Pick) → Meets resources need pick → meets resources need pick ≡ true
meets-from resources need pick m =
    and_from (need.group == pick.group && bytes_eq need.kind pick.kind && need.slots == pick.slots) (names_resource pick (slice_get resources pick.resource))
    (and_from (need.group == pick.group && bytes_eq need.kind pick.kind) (need.slots == pick.slots)
    (and_from (need.group == pick.group) (bytes_eq need.kind pick.kind) m.group m.kind) m.slots) m.named

named-kind : (need : Need) (pick : Pick) (r : Option Resource) → bytes_eq need.kind pick.kind ≡ true → names_resource pick r ≡ true → is_of_kind need.kind r ≡ true
named-kind need pick None same named = named
named-kind need pick (Some r) same named =
    let both = and_parts (bytes_eq r.kind pick.kind) (bytes_eq r.id pick.id) named in
    ap (λ k. bytes_eq r.kind k) ((bytes_eq-Decides need.kind pick.kind).0 same) ∙ both.0

-- the places of picks
abbrev pub places_of : List Pick → List ℕ
places_of picks = map (λ (pick : Pick). pick.resource) picks

pub placed-kinds : (resources : List Resource) (needs : List Need) (picks : List Pick) → is_placement resources needs picks ≡ true → are_of_kind resources needs (places_of picks) ≡ true
placed-kinds resources [] [] all = refl
placed-kinds resources [] (pick ∷ picks) all = all
placed-kinds resources (need ∷ needs) [] all = all
placed-kinds resources (need ∷ needs) (pick ∷ picks) all =
    let both = and_parts (meets resources need pick) (is_placement resources needs picks) all in
    let m = meets-parts resources need pick both.0 in
    and_from (is_of_kind need.kind (slice_get resources pick.resource)) (are_of_kind resources needs (places_of picks))
    (named-kind need pick (slice_get resources pick.resource) m.kind m.named)
    (placed-kinds resources needs picks both.1)

pub slots-load : (place : ℕ) (resources : List Resource) (needs : List Need) (picks : List Pick) → is_placement resources needs picks ≡ true → slots_at place picks ≡ load place (sizes_of needs) (places_of picks)
slots-load place resources [] [] all = refl
slots-load place resources [] (pick ∷ picks) all = cc
slots-load place resources (need ∷ needs) [] all = cc
slots-load place resources (need ∷ needs) (pick ∷ picks) all =
    let both = and_parts (meets resources need pick) (is_placement resources needs picks) all in
    let m = meets-parts resources need pick both.0 in
    let same : need.slots ≡ pick.slots = (let e : (need.slots == pick.slots) ≡ true = m.slots in grind (arith, nat_tests)) in
    let again = slots-load place resources needs picks both.1 in
    slots-cons place pick picks
    ∙ ap (λ n. cond (pick.resource == place) n 0 + slots_at place picks) (sym same)
    ∙ ap (λ n. cond (pick.resource == place) need.slots 0 + n) again

named-there : (pick : Pick) (resources : List Resource) (place : ℕ) → names_resource pick (slice_get resources place) ≡ true → place < length resources
named-there pick [] place named = cc
named-there pick (r ∷ rs) zero named = omega arith
named-there pick (r ∷ rs) (suc place) named = omega (arith, named-there pick rs place named)

pub placed-there : (resources : List Resource) (needs : List Need) (picks : List Pick) → is_placement resources needs picks ≡ true → are_there resources picks ≡ true
placed-there resources [] [] all = refl
placed-there resources [] (pick ∷ picks) all = cc
placed-there resources (need ∷ needs) [] all = refl
placed-there resources (need ∷ needs) (pick ∷ picks) all =
    let both = and_parts (meets resources need pick) (is_placement resources needs picks) all in
    let m = meets-parts resources need pick both.0 in
    let inside = named-there pick resources pick.resource m.named in
    and_from (nat_lt pick.resource (length resources)) (are_there resources picks) (grind (arith, nat_tests)) (placed-there resources needs picks both.1)

-- if a placement fits, the needs are met at the places of its picks
pub spread-placed : (free : FreeValue) (needs : List Need) (picks : List Pick) → is_placement free.resources needs picks ≡ true → fits_beside free.resources (used_at free) picks ≡ true → IsSpread free needs (places_of picks)
spread-placed free needs picks placed fits = record {
  kinds = placed-kinds free.resources needs picks placed;
  room = λ place. by_test place (nat_lt place (length free.resources)) refl;
}
  where
    by_test : (place : ℕ) (test : Bool) → nat_lt place (length free.resources) ≡ test → load place (sizes_of needs) (places_of picks) ≤ free_at free place
    by_test place true t =
        let le = fits-each 0 free.resources (used_at free) picks fits place place (omega arith) (grind (arith, nat_tests)) in
        omega (arith, le, slots-load place free.resources needs picks placed)
    by_test place false t =
        let none = none-beyond free.resources picks place (placed-there free.resources needs picks placed) (grind (arith, nat_tests)) in
        omega (arith, none, slots-load place free.resources needs picks placed)

pub none-fits : (free : FreeValue) (needs : List Need) → NoneSpread free needs → NoneFits free needs
none-fits free needs none = λ some. none (places_of some.picks) (spread-placed free needs some.picks some.placed some.fits)

-- if the needs are met at some places, a placement with its picks at these places fits
pub fitting-spread : (free : FreeValue) (needs : List Need) (places : List ℕ) (picks : List Pick) → IsWithinSlots free.resources free.used → IsSpread free needs places → is_placement free.resources needs picks ≡ true → places_of picks ≡ places → IsFitting free needs picks
fitting-spread free needs places picks within spread placed same = record {
  placed = placed;
  fits = each-fits 0 free.resources (used_at free) picks (λ at inside. (let start : 0 + at ≡ at = omega arith in
      subst (λ (i : ℕ). used_at free i + slots_at i picks ≤ get_or (slot_counts free.resources) at 0) (sym start) (here at)));
}
  where
    here : (at : ℕ) → used_at free at + slots_at at picks ≤ get_or (slot_counts free.resources) at 0
    here at =
        let loads : load at (sizes_of needs) (places_of picks) ≡ load at (sizes_of needs) places = ap (λ (ps : List ℕ). load at (sizes_of needs) ps) same in
        omega (arith, slots-load at free.resources needs picks placed, loads, spread.room at, within.within at)

-- one more need, and its pick
pub placed-more : (resources : List Resource) (needs : List Need) (picks : List Pick) (need : Need) (pick : Pick) → is_placement resources needs picks ≡ true → meets resources need pick ≡ true → is_placement resources (needs ++ need ∷ []) (picks ++ pick ∷ []) ≡ true
placed-more resources [] [] need pick all here = and_from (meets resources need pick) true here refl
placed-more resources [] (first ∷ picks) need pick all here = cc
placed-more resources (first ∷ needs) [] need pick all here = cc
placed-more resources (first ∷ needs) (other ∷ picks) need pick all here =
    let both = and_parts (meets resources first other) (is_placement resources needs picks) all in
    and_from (meets resources first other) (is_placement resources (needs ++ need ∷ []) (picks ++ pick ∷ [])) both.0 (placed-more resources needs picks need pick both.1 here)

-- if each need has a place with a resource of its kind, there are as many places as needs
pub spread-length : (resources : List Resource) (needs : List Need) (places : List ℕ) → are_of_kind resources needs places ≡ true → length places ≡ length needs
spread-length resources [] [] all = refl
spread-length resources [] (place ∷ places) all = cc
spread-length resources (need ∷ needs) [] all = cc
spread-length resources (need ∷ needs) (place ∷ places) all =
    let both = and_parts (is_of_kind need.kind (slice_get resources place)) (are_of_kind resources needs places) all in
    ap (λ n. suc n) (spread-length resources needs places both.1)

pub kind-at : (resources : List Resource) (needs : List Need) (places : List ℕ) (i : ℕ) (need : Need) → are_of_kind resources needs places ≡ true → i < length needs → need ≡ get_or needs i need → is_of_kind need.kind (slice_get resources (get_or places i 0)) ≡ true
kind-at resources [] places i need all inside is = absurd (omega arith)
kind-at resources (first ∷ needs) [] i need all inside is = cc
kind-at resources (first ∷ needs) (place ∷ places) zero need all inside is =
    let both = and_parts (is_of_kind first.kind (slice_get resources place)) (are_of_kind resources needs places) all in
    ap (λ (n : Need). is_of_kind n.kind (slice_get resources place)) is ∙ both.0
kind-at resources (first ∷ needs) (place ∷ places) (suc i) need all inside is =
    let both = and_parts (is_of_kind first.kind (slice_get resources place)) (are_of_kind resources needs places) all in
    kind-at resources needs places i need both.1 (omega arith) is

item-there : (resources : List Resource) (place : ℕ) (resource : Resource) → place < length resources → resource ≡ get_or resources place resource → slice_get resources place ≡ Some resource
item-there [] place resource inside is = absurd (omega arith)
item-there (r ∷ rs) zero resource inside is = let P : Resource → Option Resource = λ x. Some x in ap P (sym is)
item-there (r ∷ rs) (suc place) resource inside is = item-there rs place resource (omega arith) is

kind-there : (kind : List ℕ) (resources : List Resource) (place : ℕ) → is_of_kind kind (slice_get resources place) ≡ true → place < length resources
kind-there kind [] place of = cc
kind-there kind (r ∷ rs) zero of = omega arith
kind-there kind (r ∷ rs) (suc place) of = omega (arith, kind-there kind rs place of)

-- a pick that copies the need, and names the resource at its place
pub pick-meets : (resources : List Resource) (need : Need) (pick : Pick) (resource : Resource) → is_of_kind need.kind (slice_get resources pick.resource) ≡ true → resource ≡ get_or resources pick.resource resource → pick.group ≡ need.group → pick.kind ≡ need.kind → pick.slots ≡ need.slots → pick.id ≡ resource.id → meets resources need pick ≡ true
pick-meets resources need pick resource of is group kind slots id =
    let there : slice_get resources pick.resource ≡ Some resource = item-there resources pick.resource resource (kind-there need.kind resources pick.resource of) is in
    let here : bytes_eq resource.kind need.kind ≡ true = ap (λ (o : Option Resource). is_of_kind need.kind o) (sym there) ∙ of in
    meets-from resources need pick (record {
      group = grind (arith, nat_tests);
      kind = (bytes_eq-Decides need.kind pick.kind).1 (sym kind);
      slots = grind (arith, nat_tests);
      named = ap (λ (o : Option Resource). names_resource pick o) there ∙ and_from (bytes_eq resource.kind pick.kind) (bytes_eq resource.id pick.id) (ap (λ k. bytes_eq resource.kind k) kind ∙ here) ((bytes_eq-Decides resource.id pick.id).1 (sym id));
    })

-- the first `count` needs have picks, at their places
abbrev pub PlacedSo : List Resource → List Need → List ℕ → List Pick → ℕ → Type 0
PlacedSo resources needs places picks count = (is_placement resources (take count needs) picks ≡ true) × (places_of picks ≡ take count places)

pub placed-next : (resources : List Resource) (needs : List Need) (places : List ℕ) (picks : List Pick) (at : ℕ) (need : Need) (pick : Pick) → at < length needs → at < length places → need ≡ get_or needs at need → PlacedSo resources needs places picks at → meets resources need pick ≡ true → pick.resource ≡ get_or places at 0 → PlacedSo resources needs places (picks ++ pick ∷ []) (at + 1)
placed-next resources needs places picks at need pick inside there item so here is =
    let more : take (at + 1) needs ≡ take at needs ++ need ∷ [] = take_more needs at need inside ∙ ap (λ (n : Need). take at needs ++ n ∷ []) (sym item) in
    let further : take (at + 1) places ≡ take at places ++ pick.resource ∷ [] = take_more places at 0 there ∙ ap (λ n. take at places ++ n ∷ []) (sym is) in (
      subst (λ (ns : List Need). is_placement resources ns (picks ++ pick ∷ []) ≡ true) (sym more) (placed-more resources (take at needs) picks need pick so.0 here),
      map-append (λ (p : Pick). p.resource) picks (pick ∷ []) ∙ ap (λ ps. ps ++ pick.resource ∷ []) so.1 ∙ sym further,
    )

pub placed-all : (resources : List Resource) (needs : List Need) (places : List ℕ) (picks : List Pick) (count : ℕ) → length needs ≤ count → are_of_kind resources needs places ≡ true → PlacedSo resources needs places picks count → (is_placement resources needs picks ≡ true) × (places_of picks ≡ places)
placed-all resources needs places picks count over kinds so = (
  subst (λ (ns : List Need). is_placement resources ns picks ≡ true) (take_all count needs over) so.0,
  so.1 ∙ take_all count places (omega (arith, spread-length resources needs places kinds)),
)
