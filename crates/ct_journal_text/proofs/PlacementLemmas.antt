-- The picks for needs at places are the one placement for these needs whose resources have these places.
use Rattle.std.proofs.Common.{ℕ, ◌+◌, ◌<◌, ◌≡◌, ◌==◌, ◌&&◌, Bool, true, false, cond, List, [], ◌∷◌, ◌++◌, length, drop, map, Option, Some, None, option_map, slice_get, get_or, bytes_eq, refl, sym, ap, subst, ◌∙◌, arith}
use Rattle.std.proofs.lemmas.Bool.{eq-eqb, and_parts, and_from}
use Rattle.std.proofs.lemmas.Bool.Decides.{Decides-eqb}
use Rattle.std.proofs.lemmas.List.{append_assoc, drop_more}
use Rattle.std.proofs.lemmas.Slice.Eq.{bytes_eq-Decides}
use Rattle.ct_base.specs.declared.defs.Need.{Need}
use Rattle.ct_base.specs.declared.defs.Resource.{Resource}
use Rattle.ct_base.proofs.NameLemmas.{bytes_eq-refl}
use Rattle.ct_alloc.specs.declared.placement.Pick.{Pick}
use Rattle.ct_alloc.specs.declared.placement.Placement.{Placement}
use Rattle.ct_alloc.specs.Placement.{is_placement, meets, names_resource}
use Rattle.ct_journal_text.specs.Completed.{IsPlacementAt, pick_by, with_pick, picks_by, of_picks}

-- the pick is right for the need on this resource
abbrev is_right : Need → Pick → Option Resource → Bool
is_right need pick resource = need.group == pick.group && bytes_eq need.kind pick.kind && need.slots == pick.slots && names_resource pick resource

-- the pick that a need is met with by a resource
abbrev made : Need → ℕ → Resource → Pick
made need place resource = record { group = need.group; kind = need.kind; id = resource.id; slots = need.slots; resource = place }

made_right : (need : Need) (place : ℕ) (resource : Resource) → bytes_eq need.kind resource.kind ≡ true → is_right need (made need place resource) (Some resource) ≡ true
made_right need place resource kind =
    let one = and_from (need.group == need.group) (bytes_eq need.kind need.kind) (eq-eqb need.group need.group refl) (bytes_eq-refl need.kind) in
    let two = and_from (need.group == need.group && bytes_eq need.kind need.kind) (need.slots == need.slots) one (eq-eqb need.slots need.slots refl) in
    let back : bytes_eq resource.kind need.kind ≡ true = (bytes_eq-Decides resource.kind need.kind).1 (sym ((bytes_eq-Decides need.kind resource.kind).0 kind)) in
    let named = and_from (bytes_eq resource.kind need.kind) (bytes_eq resource.id resource.id) back (bytes_eq-refl resource.id) in
    and_from (need.group == need.group && bytes_eq need.kind need.kind && need.slots == need.slots) (bytes_eq resource.kind need.kind && bytes_eq resource.id resource.id) two named

found_by : (b : Bool) (need : Need) (place : ℕ) (resource : Resource) (pick : Pick) → bytes_eq need.kind resource.kind ≡ b → cond b (Some (made need place resource)) None ≡ Some pick → (is_right need pick (Some resource) ≡ true) × (place ≡ pick.resource)
found_by true need place resource pick kind is =
    let it : made need place resource ≡ pick = cc in
    subst (λ (p : Pick). (is_right need p (Some resource) ≡ true) × (place ≡ p.resource)) it (made_right need place resource kind, refl)
found_by false need place resource pick kind is = cc

-- a pick that is found is right, and has the place
pick_found : (need : Need) (place : ℕ) (resource : Option Resource) (pick : Pick) → pick_by need place resource ≡ Some pick → (is_right need pick resource ≡ true) × (place ≡ pick.resource)
pick_found need place None pick is = cc
pick_found need place (Some resource) pick is = found_by (bytes_eq need.kind resource.kind) need place resource pick refl is

-- a pick that is right is found
right_found : (need : Need) (pick : Pick) (resource : Option Resource) → is_right need pick resource ≡ true → pick_by need pick.resource resource ≡ Some pick
right_found need pick None right = let no : false ≡ true = (and_parts (need.group == pick.group && bytes_eq need.kind pick.kind && need.slots == pick.slots) false right).1 in cc
right_found need pick (Some resource) right =
    let outer = and_parts (need.group == pick.group && bytes_eq need.kind pick.kind && need.slots == pick.slots) (bytes_eq resource.kind pick.kind && bytes_eq resource.id pick.id) right in
    let middle = and_parts (need.group == pick.group && bytes_eq need.kind pick.kind) (need.slots == pick.slots) outer.0 in
    let inner = and_parts (need.group == pick.group) (bytes_eq need.kind pick.kind) middle.0 in
    let named = and_parts (bytes_eq resource.kind pick.kind) (bytes_eq resource.id pick.id) outer.1 in
    let kind : need.kind ≡ pick.kind = (bytes_eq-Decides need.kind pick.kind).0 inner.1 in
    let its_kind : resource.kind ≡ pick.kind = (bytes_eq-Decides resource.kind pick.kind).0 named.0 in
    let id : resource.id ≡ pick.id = (bytes_eq-Decides resource.id pick.id).0 named.1 in
    let group : need.group ≡ pick.group = (Decides-eqb need.group pick.group).0 inner.0 in
    let slots : need.slots ≡ pick.slots = (Decides-eqb need.slots pick.slots).0 middle.1 in
    ap (λ b. cond b (Some (made need pick.resource resource)) None) ((bytes_eq-Decides need.kind resource.kind).1 (kind ∙ sym its_kind))
    ∙ (λ i. Some (record { group = group i; kind = kind i; id = id i; slots = slots i; resource = pick.resource }))

parts_of : (one : Option Pick) (others : Option (List Pick)) (pick : Pick) (picks : List Pick) → with_pick one others ≡ Some (pick ∷ picks) → (one ≡ Some pick) × (others ≡ Some picks)
parts_of None others pick picks is = cc
parts_of (Some first) None pick picks is = cc
parts_of (Some first) (Some rest) pick picks is = (cc, cc)

never_empty : (one : Option Pick) (others : Option (List Pick)) → with_pick one others ≡ Some [] → ⊥
never_empty None others is = cc
never_empty (Some first) None is = cc
never_empty (Some first) (Some rest) is = cc

-- picks that are found are a placement, and have the places
picks_found : (resources : List Resource) (needs : List Need) (places : List ℕ) (picks : List Pick) → picks_by resources needs places ≡ Some picks → (is_placement resources needs picks ≡ true) × (places ≡ map (λ (pick : Pick). pick.resource) picks)
picks_found resources [] [] [] is = (refl, refl)
picks_found resources [] [] (pick ∷ picks) is = cc
picks_found resources [] (place ∷ places) picks is = cc
picks_found resources (need ∷ needs) [] picks is = cc
picks_found resources (need ∷ needs) (place ∷ places) [] is = absurd (never_empty (pick_by need place (slice_get resources place)) (picks_by resources needs places) is)
picks_found resources (need ∷ needs) (place ∷ places) (pick ∷ picks) is =
    let parts = parts_of (pick_by need place (slice_get resources place)) (picks_by resources needs places) pick picks is in
    let one = pick_found need place (slice_get resources place) pick parts.0 in
    let rest = picks_found resources needs places picks parts.1 in
    let right : meets resources need pick ≡ true = ap (λ at. is_right need pick (slice_get resources at)) (sym one.1) ∙ one.0 in (
      and_from (meets resources need pick) (is_placement resources needs picks) right rest.0,
      λ i. one.1 i ∷ rest.1 i,
    )

-- a placement is found at the places of its resources
placement_found : (resources : List Resource) (needs : List Need) (picks : List Pick) → is_placement resources needs picks ≡ true → picks_by resources needs (map (λ (pick : Pick). pick.resource) picks) ≡ Some picks
placement_found resources [] [] is = refl
placement_found resources [] (pick ∷ picks) is = cc
placement_found resources (need ∷ needs) [] is = cc
placement_found resources (need ∷ needs) (pick ∷ picks) is =
    let parts = and_parts (meets resources need pick) (is_placement resources needs picks) is in
    λ i. with_pick (right_found need pick (slice_get resources pick.resource) parts.0 i) (placement_found resources needs picks parts.1 i)

none_by : (found : Option (List Pick)) (placement : Placement) → option_map of_picks found ≡ Some placement → found ≡ Some placement.picks
none_by None placement is = cc
none_by (Some picks) placement is = let it : of_picks picks ≡ placement = cc in ap (λ (p : Placement). Some p.picks) it

-- places are completed exactly
pub completes : (resources : List Resource) (needs : List Need) (places : List ℕ) → IsPlacementAt resources needs places (option_map of_picks (picks_by resources needs places))
completes resources needs places placement = (
  λ is. picks_found resources needs places placement.picks (none_by (picks_by resources needs places) placement is),
  λ is. ap (λ ps. option_map of_picks (picks_by resources needs ps)) is.1 ∙ ap (option_map of_picks) (placement_found resources needs placement.picks is.0),
)

-- the picks so far in front of those that are found
abbrev pub with_front : List Pick → Option (List Pick) → Option (List Pick)
with_front picks found = option_map (λ more. picks ++ more) found

with_none : (one : Option Pick) → None ≡ with_pick one None
with_none None = refl
with_none (Some pick) = refl

-- other than one place for each need gives no picks
pub unequal : (resources : List Resource) (needs : List Need) (places : List ℕ) → (length needs ≡ length places → ⊥) → None ≡ picks_by resources needs places
unequal resources [] [] other = absurd (other refl)
unequal resources [] (place ∷ places) other = refl
unequal resources (need ∷ needs) [] other = refl
unequal resources (need ∷ needs) (place ∷ places) other =
    let one = pick_by need place (slice_get resources place) in
    with_none one ∙ ap (with_pick one) (unequal resources needs places (λ e. other (omega (arith, e))))

front_more : (picks : List Pick) (pick : Pick) (rest : Option (List Pick)) → with_front (picks ++ pick ∷ []) rest ≡ with_front picks (with_pick (Some pick) rest)
front_more picks pick None = refl
front_more picks pick (Some more) = ap Some (append_assoc picks (pick ∷ []) more)

module _ (resources : List Resource) (needs : List Need) (places : List ℕ) (at : ℕ) (need : Need) (found : Option Pick) (within : at < length needs) (also : at < length places) (is : need ≡ get_or needs at need)
    (made_of : found ≡ pick_by need (get_or places at 0) (slice_get resources (get_or places at 0))) where
  next : picks_by resources (drop at needs) (drop at places) ≡ with_pick found (picks_by resources (drop (at + 1) needs) (drop (at + 1) places))
  next =
      let n : drop at needs ≡ need ∷ drop (at + 1) needs = drop_more needs at need within ∙ ap (λ x. x ∷ drop (at + 1) needs) (sym is) in
      let p : drop at places ≡ get_or places at 0 ∷ drop (at + 1) places = drop_more places at 0 also in
      (λ i. picks_by resources (n i) (p i)) ∙ ap (λ one. with_pick one (picks_by resources (drop (at + 1) needs) (drop (at + 1) places))) (sym made_of)

  -- without a pick for one need there are none
  pub stops : (picks : List Pick) (all : Option (List Pick)) → found ≡ None → with_front picks (picks_by resources (drop at needs) (drop at places)) ≡ all → None ≡ all
  stops picks all none so_far =
      sym (ap (with_front picks) (next ∙ ap (λ one. with_pick one (picks_by resources (drop (at + 1) needs) (drop (at + 1) places))) none)) ∙ so_far

  -- the next pick goes behind the others
  pub goes_on : (picks : List Pick) (pick : Pick) (all : Option (List Pick)) → found ≡ Some pick → with_front picks (picks_by resources (drop at needs) (drop at places)) ≡ all → with_front (picks ++ pick ∷ []) (picks_by resources (drop (at + 1) needs) (drop (at + 1) places)) ≡ all
  goes_on picks pick all some so_far =
      let rest = picks_by resources (drop (at + 1) needs) (drop (at + 1) places) in
      front_more picks pick rest ∙ ap (λ one. with_front picks (with_pick one rest)) (sym some) ∙ ap (with_front picks) (sym next) ∙ so_far
