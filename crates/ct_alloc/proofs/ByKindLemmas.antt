-- The places of each kind: what a look-up returns once a place was put behind
-- the others of its kind, and the first place of a kind that has room.
use Rattle.std.proofs.Common.{◌≡◌, ◌∙◌, sym, ap, subst, refl, ℕ, ◌+◌, ◌<◌, ◌≤◌, Bool, true, false, cond, bytes_eq, List, [], ◌∷◌, ◌++◌, length, drop, get_or, Some, arith, append_assoc, nat_le}
use Rattle.std.specs.Prelude.{slice_get}
use Rattle.std.specs.List.{list_any}
use Rattle.std.specs.Map.{lookup}
use Rattle.std.specs.declared.vec.Vec.{Vec}
use Rattle.std.proofs.lemmas.Bool.{true≢false}
use Rattle.std.proofs.lemmas.Bool.Decides.{nat_tests}
use Rattle.std.proofs.lemmas.List.{at_drop_more}
use Rattle.std.proofs.lemmas.List.Folds.{list_any_at}
use Rattle.std.proofs.lemmas.Slice.Eq.{bytes_eq-Decides}
use Rattle.indexmap.specs.IndexMap.{IndexMap, UpdatesBy}
use Rattle.ct_base.specs.declared.defs.Need.{Need}
use Rattle.ct_base.specs.declared.defs.Resource.{Resource}
use Rattle.ct_base.proofs.KeyLemmas.{kept_apart}
use Rattle.ct_base.proofs.NameLemmas.{bytes_eq_comm}
use Rattle.ct_alloc.specs.Free.{FreeValue, free_at}
use Rattle.ct_base.specs.Found.{or_none}
use Rattle.ct_alloc.specs.ByKind.{places_for}
use Rattle.ct_alloc.specs.Spread.{HasRoom, cards_from, is_of_kind}
use Rattle.ct_alloc.proofs.SpreadLemmas.{card-kind, card-there, index-at, index_of}

module _ {Y Z : Type 0} where
  module _ {S : Type 0} where
    updated : (before now : IndexMap (Vec ℕ Y) (Vec ℕ Z) S) (kind asked : List ℕ) (places : Vec ℕ Z) → UpdatesBy (λ (one other : Vec ℕ Y). bytes_eq one.items other.items) (λ (name : Vec ℕ Y). bytes_eq kind name.items) before now (Some places) → (is : Bool) → bytes_eq kind asked ≡ is → places_for now asked ≡ cond is places.items (places_for before asked)
    updated before now kind asked places updates true is = ap (places_for now) (sym ((bytes_eq-Decides kind asked).0 is)) ∙ ap or_none updates.1
    updated before now kind asked places updates false is = ap or_none (kept_apart kind asked before.entries now.entries (bytes_eq_comm asked kind ∙ is) updates.3)

    noted_by : (before now : IndexMap (Vec ℕ Y) (Vec ℕ Z) S) (kind asked places : List ℕ) (place : ℕ) (is : Bool) → bytes_eq kind asked ≡ is → places ≡ places_for before kind ++ place ∷ [] → places_for now asked ≡ cond is places (places_for before asked) → places_for now asked ≡ cond is (places_for before asked ++ place ∷ []) (places_for before asked)
    noted_by before now kind asked places place true is pushed put = put ∙ pushed ∙ ap (λ k. places_for before k ++ place ∷ []) ((bytes_eq-Decides kind asked).0 is)
    noted_by before now kind asked places place false is pushed put = put

    -- a place was put behind the places of a kind
    pub noted : (before now : IndexMap (Vec ℕ Y) (Vec ℕ Z) S) (kind here : List ℕ) (places : Vec ℕ Z) (place : ℕ) → UpdatesBy (λ (one other : Vec ℕ Y). bytes_eq one.items other.items) (λ (name : Vec ℕ Y). bytes_eq kind name.items) before now (Some places) → here ≡ places_for before kind → places.items ≡ here ++ place ∷ [] → (asked : List ℕ) → places_for now asked ≡ cond (bytes_eq kind asked) (places_for before asked ++ place ∷ []) (places_for before asked)
    noted before now kind here places place updates kept pushed asked =
        noted_by before now kind asked places.items place (bytes_eq kind asked) refl (pushed ∙ ap (λ xs. xs ++ place ∷ []) kept) (updated before now kind asked places updates (bytes_eq kind asked) refl)

cards-by : (old now rest : List ℕ) (place : ℕ) (is : Bool) → now ≡ cond is (old ++ place ∷ []) old → now ++ rest ≡ old ++ cond is (place ∷ rest) rest
cards-by old now rest place true noted = ap (λ places. places ++ rest) noted ∙ append_assoc old (place ∷ []) rest
cards-by old now rest place false noted = ap (λ places. places ++ rest) noted

-- the places so far and the places of the remaining resources are all places, one resource further on
pub cards-next : (old now kind : List ℕ) (resources : List Resource) (place : ℕ) (resource : Resource) → place < length resources → resource ≡ get_or resources place resource → now ≡ cond (bytes_eq resource.kind kind) (old ++ place ∷ []) old → now ++ cards_from (place + 1) kind (drop (place + 1) resources) ≡ old ++ cards_from place kind (drop place resources)
cards-next old now kind resources place resource inside is noted =
    cards-by old now (cards_from (place + 1) kind (drop (place + 1) resources)) place (bytes_eq resource.kind kind) noted
    ∙ ap (λ (r : Resource). old ++ cards_from place kind (r ∷ drop (place + 1) resources)) is
    ∙ sym (at_drop_more (λ rs. old ++ cards_from place kind rs) resources place resource inside)

-- as many slots as the need asks for are free at the place
abbrev pub has_slots : FreeValue → Need → ℕ → Bool
has_slots free need place = nat_le need.slots (free_at free place)

-- if no place of the need's kind has its slots free, no place has room for it
pub none-with-room : (free : FreeValue) (need : Need) (cards : List ℕ) → cards ≡ cards_from 0 need.kind free.resources → list_any (has_slots free need) cards ≡ false → (place : ℕ) → HasRoom free need place → ⊥
none-with-room free need cards is none place has =
    let below : index_of place (cards_from 0 need.kind free.resources) < length (cards_from 0 need.kind free.resources) = card-there need.kind 0 free.resources place place (omega arith) has.kind in
    let inside : index_of place cards < length cards = subst (λ (cs : List ℕ). index_of place cs < length cs) (sym is) below in
    let here : has_slots free need place ≡ true = slots_free need.slots (free_at free place) has.room in
    let passes : has_slots free need (get_or cards (index_of place cards) 0) ≡ true = ap (has_slots free need) (index-at place cards inside) ∙ here in
    true≢false (sym (list_any_at (has_slots free need) cards (index_of place cards) 0 inside passes) ∙ none)
  where
    slots_free : (wanted free : ℕ) → wanted ≤ free → nat_le wanted free ≡ true
    slots_free wanted free le = grind (arith, nat_tests)

-- a place of the need's kind that has its slots free has room
pub has-room : (free : FreeValue) (need : Need) (cards : List ℕ) (i : ℕ) → cards ≡ cards_from 0 need.kind free.resources → i < length cards → need.slots ≤ free_at free (get_or cards i 0) → HasRoom free need (get_or cards i 0)
has-room free need cards i is inside room = record {
  kind = subst (λ (cs : List ℕ). is_of_kind need.kind (slice_get free.resources (get_or cs i 0)) ≡ true) (sym is) (card-kind need.kind 0 free.resources i (get_or (cards_from 0 need.kind free.resources) i 0) (subst (λ (cs : List ℕ). i < length cs) is inside) (omega arith));
  room = room;
}
