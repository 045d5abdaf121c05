-- The resources read so far, in front of those that are still to be read.
use Rattle.std.proofs.Common.{◌≡◌, ℕ, ◌+◌, ◌<◌, List, [], ◌∷◌, ◌++◌, map, length, drop, get_or, Bool, true, false, cond, Some, None, String, Global, refl, sym, ap, ◌∙◌, append_assoc, arith, Ok, Err}
use Rattle.std.specs.Prelude.{Result, IsUtf8}
use Rattle.std.specs.Str.{is_utf8}
use Rattle.std.proofs.lemmas.Str.{IsUtf8-from_is_utf8, is_utf8-from_IsUtf8}
use Rattle.std.proofs.lemmas.List.{drop_more, map_push}
use Rattle.serde_json.specs.Data.{Data, Items}
use Rattle.serde_json.specs.Read.{read}
use Rattle.serde_json.specs.View.{view, items_view, members_view}
use Rattle.serde_json.specs.declared.value.Value.{Value}
use Rattle.ct_base.specs.declared.defs.Resource.{Resource}
use Rattle.ct_spec.specs.declared.fault.SpecFault.{SpecFault}
use Rattle.ct_spec.specs.Json.{json_in, only_item}
use Rattle.ct_spec.specs.Entry.{resource_in}
use Rattle.ct_spec.specs.Specification.{goes_on, entries_from, resources_of_kinds}

-- a UTF-8 text that `serde_json` accepts has this value
pub is_json : (text : List ℕ) (value : Data) → IsUtf8 text → read text ≡ Some value → Some value ≡ json_in text
is_json text value utf8 is = sym (ap (λ b. cond b (read text) None) (is_utf8-from_IsUtf8 text utf8) ∙ is)

json_by : (text : List ℕ) (b : Bool) → is_utf8 text ≡ b → (IsUtf8 text → read text ≡ None) → None ≡ cond b (read text) None
json_by text true is refused = sym (refused (IsUtf8-from_is_utf8 text is))
json_by text false is refused = refl

-- a text that `serde_json` refuses has no value
pub is_no_json : (text : List ℕ) → (IsUtf8 text → read text ≡ None) → None ≡ json_in text
is_no_json text refused = json_by text (is_utf8 text) refl refused

-- an array of no item, and one of several, has no only item
pub no_item : (items : List Value) → length items < 1 → None ≡ only_item (items_view items)
no_item [] few = refl
no_item (one ∷ items) few = absurd (omega arith)

pub more_items : (items : List Value) → 1 < length items → None ≡ only_item (items_view items)
more_items [] many = absurd (omega arith)
more_items (one ∷ []) many = absurd (omega arith)
more_items (one ∷ other ∷ items) many = refl

-- the resources read so far followed by the resources read next, or the fault
abbrev pub behind : List Resource → Result (List Resource) SpecFault → Result (List Resource) SpecFault
behind found (Ok others) = Ok (found ++ others)
behind found (Err why) = Err why

behind_one : (found : List Resource) (one : Resource) (says : Result (List Resource) SpecFault) → behind found (goes_on says (λ others. Ok (one ∷ others))) ≡ behind (found ++ one ∷ []) says
behind_one found one (Ok others) = ap Ok (sym (append_assoc found (one ∷ []) others))
behind_one found one (Err why) = refl

-- the ids of the resources, in order
abbrev pub ids_of : List Resource → List (List ℕ)
ids_of resources = map (λ (r : Resource). r.id) resources

-- the resources so far followed by those of the entries from a place on, or the first fault
abbrev pub from_place : List ℕ → List Value → ℕ → List Resource → Result (List Resource) SpecFault
from_place kind entries place found = behind found (entries_from kind place (ids_of found) (items_view (drop place entries)))

-- the resources so far followed by those of an entry and of the entries behind it, or the first fault
abbrev with_entry : List ℕ → ℕ → List Resource → Items → Result Resource SpecFault → Result (List Resource) SpecFault
with_entry kind place found rest says =
    behind found (goes_on says (λ one. goes_on (entries_from kind (place + 1) (ids_of found ++ one.id ∷ []) rest) (λ others. Ok (one ∷ others))))

split_at : (kind : List ℕ) (entries : List Value) (place : ℕ) (found : List Resource) → place < length entries → (entry : Value) → entry ≡ get_or entries place entry
    → from_place kind entries place found ≡ with_entry kind place found (items_view (drop (place + 1) entries)) (resource_in kind place (ids_of found) (view entry))
split_at kind entries place found within entry is =
    let split : drop place entries ≡ entry ∷ drop (place + 1) entries = drop_more entries place entry within ∙ ap (λ e. e ∷ drop (place + 1) entries) (sym is) in
    ap (λ es. behind found (entries_from kind place (ids_of found) (items_view es))) split

-- one more entry is read
pub entry_more : (kind : List ℕ) (entries : List Value) (place : ℕ) (found : List Resource) (entry : Value) (one : Resource) (all : Result (List Resource) SpecFault) → place < length entries → entry ≡ get_or entries place entry
    → resource_in kind place (ids_of found) (view entry) ≡ Ok one → from_place kind entries place found ≡ all → from_place kind entries (place + 1) (found ++ one ∷ []) ≡ all
entry_more kind entries place found entry one all within is says so_far =
    let rest = items_view (drop (place + 1) entries) in
    ap (λ ids. behind (found ++ one ∷ []) (entries_from kind (place + 1) ids rest)) (map_push (λ (r : Resource). r.id) found one)
    ∙ sym (behind_one found one (entries_from kind (place + 1) (ids_of found ++ one.id ∷ []) rest))
    ∙ ap (with_entry kind place found rest) (sym says)
    ∙ sym (split_at kind entries place found within entry is)
    ∙ so_far

-- the name of a kind with its JSON value
abbrev pub Kind : Type 0
Kind = String Global × Value

-- the resources so far followed by those of kinds, or the first fault
abbrev pub with_kinds : List Resource → List Kind → Result (List Resource) SpecFault
with_kinds found kinds = behind found (resources_of_kinds (members_view kinds))

-- an empty list in front changes nothing
pub none_behind : (says : Result (List Resource) SpecFault) → behind [] says ≡ says
none_behind (Ok resources) = refl
none_behind (Err why) = refl
