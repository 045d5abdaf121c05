-- The resources of a specification. Source: CMake manual, ctest(1), Resource Specification File.
-- The refusals, their order and the limits are this project's choice.
use Rattle.std.specs.Prelude.{ℕ, ◌+◌, Bool, false, ◌&&◌, List, [], ◌∷◌, ◌++◌, length, codes, nat_lt, Option, Some, None, option_and_then, Result, Ok, Err, ◌==◌, if◌then◌else◌}
use Rattle.serde_json.specs.Data.{Data, Items, no_items, item, Members, no_members, member}
use Rattle.serde_json.specs.Find.{get, as_array, as_object}
use Rattle.ct_base.specs.declared.defs.Resource.{Resource}
use Rattle.ct_spec.specs.declared.fault.SpecFault.{SpecFault}
use Rattle.ct_spec.specs.declared.fault.SpecFault.TheVariants.{NotJson, BadVersion, BadLocal, BadKind, TooMany}
use Rattle.ct_spec.specs.declared.document.TheConstants.{MOST_RESOURCES}
use Rattle.ct_spec.specs.Json.{json_in, whole_at, only_item}
use Rattle.ct_spec.specs.Entry.{resource_in}
use Rattle.ct_base.specs.TypeNames.{is_type_name}

-- continues with what was read, or returns its fault
abbrev pub goes_on : {X Y : Type 0} → Result X SpecFault → (X → Result Y SpecFault) → Result Y SpecFault
goes_on (Ok x) next = next x
goes_on (Err why) next = Err why

-- the resources of a kind that its entries from a place on declare, behind entries with these ids
abbrev pub entries_from : List ℕ → ℕ → List (List ℕ) → Items → Result (List Resource) SpecFault
entries_from kind place ids no_items = Ok []
entries_from kind place ids (item entry entries) =
    goes_on (resource_in kind place ids entry) (λ one.
    goes_on (entries_from kind (place + 1) (ids ++ one.id ∷ []) entries) (λ others. Ok (one ∷ others)))

-- the resources of a kind, or BadKind where its value is no array
abbrev pub resources_in_array : List ℕ → Option Items → Result (List Resource) SpecFault
resources_in_array kind None = Err (BadKind kind)
resources_in_array kind (Some entries) = entries_from kind 0 [] entries

-- the resources of a kind; its name is checked first
abbrev pub resources_of_kind : List ℕ → Data → Result (List Resource) SpecFault
resources_of_kind kind value =
    if is_type_name kind then resources_in_array kind (as_array value) else Err (BadKind kind)

-- the resources of all kinds, in order of their names
abbrev pub resources_of_kinds : Members → Result (List Resource) SpecFault
resources_of_kinds no_members = Ok []
resources_of_kinds (member kind value kinds) =
    goes_on (resources_of_kind kind value)
    (λ these. goes_on (resources_of_kinds kinds) (λ others. Ok (these ++ others)))

-- the greatest number of resources of a machine
abbrev pub most_resources : ℕ
most_resources = MOST_RESOURCES

-- the resources, or TooMany if there are more than that
abbrev pub limited : List Resource → Result (List Resource) SpecFault
limited resources = if nat_lt most_resources (length resources) then Err TooMany else Ok resources

-- the resources of a machine, or BadLocal where it is not described
abbrev pub resources_of_local : Option Members → Result (List Resource) SpecFault
resources_of_local None = Err BadLocal
resources_of_local (Some kinds) = goes_on (resources_of_kinds kinds) limited

-- the object that is the only item of the member `local`
abbrev pub local_kinds : Data → Option Members
local_kinds value =
    option_and_then as_object
    (option_and_then only_item (option_and_then as_array (get (codes "local") value)))

-- both numbers are present, and they are the version that is read: 1 and 0
abbrev pub is_version : Option ℕ → Option ℕ → Bool
is_version None minor = false
is_version (Some major) None = false
is_version (Some major) (Some minor) = major == 1 && minor == 0

-- the member `version` is present and says 1 and 0
abbrev pub is_known_version : Option Data → Bool
is_known_version None = false
is_known_version (Some version) =
    is_version (whole_at (codes "major") version) (whole_at (codes "minor") version)

-- the resources that a JSON value declares, or its first fault
abbrev pub resources_of : Data → Result (List Resource) SpecFault
resources_of value =
    if is_known_version (get (codes "version") value)
    then resources_of_local (local_kinds value)
    else Err BadVersion

-- the resources that a JSON value declares, or NotJson where there is no value
abbrev pub resources_of_json : Option Data → Result (List Resource) SpecFault
resources_of_json None = Err NotJson
resources_of_json (Some value) = resources_of value

-- the resources of a text, or the first fault in it
abbrev pub resources_in : List ℕ → Result (List Resource) SpecFault
resources_in text = resources_of_json (json_in text)
