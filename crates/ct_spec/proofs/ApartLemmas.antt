-- The resources of a value differ in kind or id.
use Rattle.std.proofs.Common.{◌≡◌, ℕ, suc, ◌+◌, ◌<◌, List, [], ◌∷◌, ◌++◌, length, get_or, Bool, true, false, cond, ◌&&◌, ◌||◌, All, AllPairs, Option, Some, None, String, Global, string_bytes, string_cmp, nat_cmp, Less, Equal, bytes_eq, refl, sym, ap, ◌∙◌, subst, arith, Ok, Err}
use Rattle.std.specs.Prelude.{Result}
use Rattle.std.specs.List.{list_any, AllByRecursion}
use Rattle.std.specs.List.Sorted.{IsStrictlySortedBy}
use Rattle.std.specs.Map.{keys_of}
use Rattle.std.specs.Cmp.Lexicographic.{slice_cmp}
use Rattle.std.proofs.lemmas.Cmp.{nat_list_cmp_total, tied_itself}
use Rattle.std.proofs.lemmas.Slice.Eq.{bytes_eq-Decides}
use Rattle.std.proofs.lemmas.List.Kept.{AllPairs-cons}
use Rattle.std.proofs.lemmas.List.Folds.{list_any-append}
use Rattle.std.proofs.lemmas.List.Elements.{All-append, All-cons, All-nil}
use Rattle.std.proofs.lemmas.Bool.{or_right, and_right}
use Rattle.serde_json.specs.Data.{Data, Items, no_items, item}
use Rattle.serde_json.specs.Find.{as_array}
use Rattle.serde_json.specs.View.{view, members_view}
use Rattle.ct_base.specs.declared.defs.Resource.{Resource}
use Rattle.ct_spec.specs.declared.fault.SpecFault.{SpecFault}
use Rattle.ct_spec.specs.declared.fault.SpecFault.TheVariants.{BadKind}
use Rattle.ct_spec.specs.Entry.{id_in, slots_in, resource_with, resource_for, resource_in}
use Rattle.ct_base.specs.Resources.{AreDistinct, same_resource}
use Rattle.ct_spec.specs.Specification.{goes_on, entries_from, resources_in_array, resources_of_kind, resources_of_kinds}
use Rattle.ct_spec.proofs.ReadLemmas.{Kind}
use Rattle.ct_base.specs.Names.{is_among}
use Rattle.ct_base.specs.TypeNames.{is_type_name}

-- a relation that holds within each of two lists and across them holds within both together
pairs_append : {X : Type 0} (R : X → X → Type 0) (xs ys : List X) → AllPairs R xs → AllPairs R ys → All (λ x. All (R x) ys) xs → AllPairs R (xs ++ ys)
pairs_append R [] ys front back across = back
pairs_append R (x ∷ xs) ys front back across =
    let head : All (R x) xs = λ k d within. front 0 (suc k) d (omega arith) (omega arith) in
    let tail : AllPairs R xs = λ i j d less within. front (suc i) (suc j) d (omega arith) (omega arith) in
    let here : All (R x) ys = across 0 x (omega arith) in
    let more : All (λ y. All (R y) ys) xs = λ k d within. across (suc k) d (omega arith) in
    AllPairs-cons R x (xs ++ ys) (All-append (R x) xs ys head here) (pairs_append R xs ys tail back more)

eq_sym : (one other : List ℕ) → bytes_eq one other ≡ false → bytes_eq other one ≡ false
eq_sym one other differ = by (bytes_eq other one) refl
  where
    by : (b : Bool) → bytes_eq other one ≡ b → b ≡ false
    by true is = sym ((bytes_eq-Decides one other).1 (sym ((bytes_eq-Decides other one).0 is))) ∙ differ
    by false is = refl

neither : (a b : Bool) → (a || (b || false)) ≡ false → (a ≡ false) × (b ≡ false)
neither true b none = cc
neither false true none = cc
neither false false none = (refl, refl)

-- resources with different ids, or of different kinds, are different resources
other_id : (one other : Resource) → bytes_eq one.id other.id ≡ false → same_resource one other ≡ false
other_id one other differ = and_right (bytes_eq one.kind other.kind) (bytes_eq one.id other.id) differ

other_kind : (one other : Resource) → bytes_eq one.kind other.kind ≡ false → same_resource one other ≡ false
other_kind one other differ = ap (λ b. b && bytes_eq one.id other.id) differ

-- what holds of the resources that the entries of a kind declare, behind entries with these ids
record AreDeclared (kind : List ℕ) (ids : List (List ℕ)) (resources : List Resource) : Type 0 where
  kinds : All (λ (r : Resource). r.kind ≡ kind) resources
  fresh : All (λ (r : Resource). is_among r.id ids ≡ false) resources
  apart : AreDistinct resources

abbrev kind_said : Result Resource SpecFault → List ℕ
kind_said (Ok one) = one.kind
kind_said (Err why) = []

abbrev id_said : Result Resource SpecFault → List ℕ
id_said (Ok one) = one.id
id_said (Err why) = []

abbrev resources_said : Result (List Resource) SpecFault → List Resource
resources_said (Ok resources) = resources
resources_said (Err why) = []

none_declared : (kind : List ℕ) (ids : List (List ℕ)) → AreDeclared kind ids []
none_declared kind ids = record {
  kinds = All-nil (λ (r : Resource). r.kind ≡ kind);
  fresh = All-nil (λ (r : Resource). is_among r.id ids ≡ false);
  apart = λ i j d less within. absurd (omega arith);
}

one_declared : (kind : List ℕ) (ids : List (List ℕ)) (one : Resource) (others : List Resource) → one.kind ≡ kind → is_among one.id ids ≡ false → AreDeclared kind (ids ++ one.id ∷ []) others → AreDeclared kind ids (one ∷ others)
one_declared kind ids one others is fresh rest =
    let parts : (k : ℕ) (d : Resource) → k < length others → (is_among (get_or others k d).id ids ≡ false) × (bytes_eq (get_or others k d).id one.id ≡ false) =
    λ k d within. neither (is_among (get_or others k d).id ids) (bytes_eq (get_or others k d).id one.id)
    (sym (list_any-append (λ other. bytes_eq (get_or others k d).id other) ids (one.id ∷ [])) ∙ rest.fresh k d within) in
    record {
      kinds = All-cons (λ (r : Resource). r.kind ≡ kind) one others is rest.kinds;
      fresh = All-cons (λ (r : Resource). is_among r.id ids ≡ false) one others fresh (λ k d within. (parts k d within).0);
      apart = AllPairs-cons (λ one other. same_resource one other ≡ false) one others
          (λ k d within. other_id one (get_or others k d) (eq_sym (get_or others k d).id one.id (parts k d within).1)) rest.apart;
    }

with_by : (kind : List ℕ) (place : ℕ) (id : List ℕ) (slots : Option ℕ) (one : Resource) → resource_with kind place id slots ≡ Ok one → (one.kind ≡ kind) × (one.id ≡ id)
with_by kind place id None one is = cc
with_by kind place id (Some slots) one is = (sym (ap kind_said is), sym (ap id_said is))

taken_by : (kind : List ℕ) (place : ℕ) (ids : List (List ℕ)) (id : List ℕ) (slots : Option ℕ) (one : Resource) (fault : SpecFault) (b : Bool) → is_among id ids ≡ b → cond b (Err fault) (resource_with kind place id slots) ≡ Ok one → (one.kind ≡ kind) × (is_among one.id ids ≡ false)
taken_by kind place ids id slots one fault true taken is = cc
taken_by kind place ids id slots one fault false taken is =
    let parts = with_by kind place id slots one is in
    (parts.0, ap (λ i. is_among i ids) parts.1 ∙ taken)

for_by : (kind : List ℕ) (place : ℕ) (ids : List (List ℕ)) (id : Option (List ℕ)) (slots : Option ℕ) (one : Resource) → resource_for kind place ids id slots ≡ Ok one → (one.kind ≡ kind) × (is_among one.id ids ≡ false)
for_by kind place ids None slots one is = cc
for_by kind place ids (Some id) slots one is = taken_by kind place ids id slots one _ (is_among id ids) refl is

-- whatever the entries declare from any place on, behind any ids, meets `AreDeclared`
abbrev Behind : List ℕ → Items → Type 0
Behind kind entries = (place : ℕ) (ids : List (List ℕ)) (resources : List Resource) → entries_from kind place ids entries ≡ Ok resources → AreDeclared kind ids resources

rest_by : (kind : List ℕ) (place : ℕ) (ids : List (List ℕ)) (entry : Data) (entries : Items) (resources : List Resource) (one : Resource) → Behind kind entries → resource_in kind place ids entry ≡ Ok one
    → (rest : Result (List Resource) SpecFault) → entries_from kind (place + 1) (ids ++ one.id ∷ []) entries ≡ rest → goes_on rest (λ others. Ok (one ∷ others)) ≡ Ok resources → AreDeclared kind ids resources
rest_by kind place ids entry entries resources one more says (Err why) rest is = cc
rest_by kind place ids entry entries resources one more says (Ok others) rest is =
    let parts = for_by kind place ids (id_in entry) (slots_in entry) one says in
    subst (AreDeclared kind ids) (ap resources_said is)
    (one_declared kind ids one others parts.0 parts.1 (more (place + 1) (ids ++ one.id ∷ []) others rest))

entry_by : (kind : List ℕ) (place : ℕ) (ids : List (List ℕ)) (entry : Data) (entries : Items) (resources : List Resource) → Behind kind entries → (says : Result Resource SpecFault) → resource_in kind place ids entry ≡ says
    → goes_on says (λ one. goes_on (entries_from kind (place + 1) (ids ++ one.id ∷ []) entries) (λ others. Ok (one ∷ others))) ≡ Ok resources → AreDeclared kind ids resources
entry_by kind place ids entry entries resources more (Err why) says is = cc
entry_by kind place ids entry entries resources more (Ok one) says is = rest_by kind place ids entry entries resources one more says (entries_from kind (place + 1) (ids ++ one.id ∷ []) entries) refl is

entries_apart : (kind : List ℕ) (place : ℕ) (ids : List (List ℕ)) (entries : Items) (resources : List Resource) → entries_from kind place ids entries ≡ Ok resources → AreDeclared kind ids resources
entries_apart kind place ids no_items resources is = subst (AreDeclared kind ids) (ap resources_said is) (none_declared kind ids)
entries_apart kind place ids (item entry entries) resources is =
    entry_by kind place ids entry entries resources (λ p i rs said. entries_apart kind p i entries rs said) (resource_in kind place ids entry) refl is

array_by : (kind : List ℕ) (entries : Option Items) (resources : List Resource) → resources_in_array kind entries ≡ Ok resources → AreDeclared kind [] resources
array_by kind None resources is = cc
array_by kind (Some entries) resources is = entries_apart kind 0 [] entries resources is

kind_by : (kind : List ℕ) (entries : Option Items) (resources : List Resource) (b : Bool) → cond b (resources_in_array kind entries) (Err (BadKind kind)) ≡ Ok resources → AreDeclared kind [] resources
kind_by kind entries resources true is = array_by kind entries resources is
kind_by kind entries resources false is = cc

kind_apart : (kind : List ℕ) (value : Data) (resources : List Resource) → resources_of_kind kind value ≡ Ok resources → AreDeclared kind [] resources
kind_apart kind value resources is = kind_by kind (as_array value) resources (is_type_name kind) is

-- the name is that of one of the kinds
abbrev is_of : List Kind → List ℕ → Bool
is_of kinds name = list_any (λ (k : Kind). bytes_eq name (string_bytes k.0)) kinds

-- the resources are of these kinds, and no two are the same
record AreOf (kinds : List Kind) (resources : List Resource) : Type 0 where
  among : All (λ (r : Resource). is_of kinds r.kind ≡ true) resources
  apart : AreDistinct resources

same_text : (xs : List ℕ) → slice_cmp nat_cmp xs xs ≡ Equal
same_text xs = tied_itself nat_list_cmp_total xs

not_below : (one other : List ℕ) → one ≡ other → slice_cmp nat_cmp one other ≡ Less → ⊥
not_below one other same less =
    let tied : slice_cmp nat_cmp one other ≡ Equal = ap (slice_cmp nat_cmp one) (sym same) ∙ same_text one in
    cc

unlike : (name other key : List ℕ) → slice_cmp nat_cmp name key ≡ Less → other ≡ key → (b : Bool) → bytes_eq name other ≡ b → b ≡ false
unlike name other key less at true same = absurd (not_below name key ((bytes_eq-Decides name other).0 same ∙ at) less)
unlike name other key less at false same = refl

below_by : (name other key : List ℕ) (more : Bool) → slice_cmp nat_cmp name key ≡ Less → (more ≡ true → bytes_eq name other ≡ false) → (b : Bool) → bytes_eq other key ≡ b → (b || more) ≡ true → bytes_eq name other ≡ false
below_by name other key more less rest true here found = unlike name other key less ((bytes_eq-Decides other key).0 here) (bytes_eq name other) refl
below_by name other key more less rest false here found = rest found

-- a name below the names of all kinds is none of them
below_other : (name : List ℕ) (kinds : List Kind) → AllByRecursion (λ (k : String Global). slice_cmp nat_cmp name (string_bytes k) ≡ Less) (keys_of kinds) → (other : List ℕ) → is_of kinds other ≡ true → bytes_eq name other ≡ false
below_other name [] below other is = cc
below_other name (kind ∷ kinds) below other is =
    below_by name other (string_bytes kind.0) (is_of kinds other) below.0 (λ found. below_other name kinds below.1 other found) (bytes_eq other (string_bytes kind.0)) refl is

kind_added : (kind : Kind) (kinds : List Kind) (these others : List Resource) → AllByRecursion (λ (k : String Global). string_cmp kind.0 k ≡ Less) (keys_of kinds) → AreDeclared (string_bytes kind.0) [] these → AreOf kinds others → AreOf (kind ∷ kinds) (these ++ others)
kind_added kind kinds these others below declared rest =
    let here : All (λ (r : Resource). is_of (kind ∷ kinds) r.kind ≡ true) these =
    λ k d within. ap (λ b. b || is_of kinds (get_or these k d).kind) ((bytes_eq-Decides (get_or these k d).kind (string_bytes kind.0)).1 (declared.kinds k d within)) in
    let later : All (λ (r : Resource). is_of (kind ∷ kinds) r.kind ≡ true) others =
    λ k d within. or_right (bytes_eq (get_or others k d).kind (string_bytes kind.0)) (is_of kinds (get_or others k d).kind) (rest.among k d within) in
    let across : All (λ (one : Resource). All (λ (other : Resource). same_resource one other ≡ false) others) these =
    λ k d within. λ j e inside. other_kind (get_or these k d) (get_or others j e)
    (ap (λ name. bytes_eq name (get_or others j e).kind) (declared.kinds k d within)
    ∙ below_other (string_bytes kind.0) kinds below (get_or others j e).kind (rest.among j e inside)) in
    record {
      among = All-append (λ (r : Resource). is_of (kind ∷ kinds) r.kind ≡ true) these others here later;
      apart = pairs_append (λ one other. same_resource one other ≡ false) these others declared.apart rest.apart across;
    }

no_kinds : AreOf [] []
no_kinds = record { among = All-nil (λ (r : Resource). is_of [] r.kind ≡ true); apart = λ i j d less within. absurd (omega arith) }

-- whatever these kinds declare meets `AreOf`
abbrev Declares : List Kind → Type 0
Declares kinds = (resources : List Resource) → resources_of_kinds (members_view kinds) ≡ Ok resources → AreOf kinds resources

others_by : (kind : Kind) (kinds : List Kind) → AllByRecursion (λ (k : String Global). string_cmp kind.0 k ≡ Less) (keys_of kinds) → Declares kinds → (resources these : List Resource)
    → resources_of_kind (string_bytes kind.0) (view kind.1) ≡ Ok these
    → (rest : Result (List Resource) SpecFault) → resources_of_kinds (members_view kinds) ≡ rest → goes_on rest (λ others. Ok (these ++ others)) ≡ Ok resources → AreOf (kind ∷ kinds) resources
others_by kind kinds below more resources these says (Err why) rest is = cc
others_by kind kinds below more resources these says (Ok others) rest is =
    subst (AreOf (kind ∷ kinds)) (ap resources_said is)
    (kind_added kind kinds these others below (kind_apart (string_bytes kind.0) (view kind.1) these says) (more others rest))

kinds_by : (kind : Kind) (kinds : List Kind) → AllByRecursion (λ (k : String Global). string_cmp kind.0 k ≡ Less) (keys_of kinds) → Declares kinds → (resources : List Resource)
    → (says : Result (List Resource) SpecFault) → resources_of_kind (string_bytes kind.0) (view kind.1) ≡ says
    → goes_on says (λ these. goes_on (resources_of_kinds (members_view kinds)) (λ others. Ok (these ++ others))) ≡ Ok resources → AreOf (kind ∷ kinds) resources
kinds_by kind kinds below more resources (Err why) says is = cc
kinds_by kind kinds below more resources (Ok these) says is = others_by kind kinds below more resources these says (resources_of_kinds (members_view kinds)) refl is

kinds_are : (kinds : List Kind) → IsStrictlySortedBy string_cmp (keys_of kinds) → (resources : List Resource) → resources_of_kinds (members_view kinds) ≡ Ok resources → AreOf kinds resources
unfolding IsStrictlySortedBy
kinds_are [] sorted resources is = subst (AreOf []) (ap resources_said is) no_kinds
kinds_are (kind ∷ kinds) sorted resources is =
    kinds_by kind kinds sorted.0 (λ rs said. kinds_are kinds sorted.1 rs said) resources (resources_of_kind (string_bytes kind.0) (view kind.1)) refl is

-- kinds in order of their names declare no resource twice
pub kinds_apart : (kinds : List Kind) → IsStrictlySortedBy string_cmp (keys_of kinds) → (resources : List Resource) → resources_of_kinds (members_view kinds) ≡ Ok resources → AreDistinct resources
kinds_apart kinds sorted resources is = (kinds_are kinds sorted resources is).apart
