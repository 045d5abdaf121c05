-- One entry of a resource specification. Source: CMake manual, ctest(1), Resource Specification File.
-- The refusals are this project's choice.
use Rattle.std.specs.Prelude.{ℕ, Bool, not, ◌&&◌, List, length, codes, nat_le, Option, Some, None, option_and_then, Result, Ok, Err, ◌==◌, if◌then◌else◌}
use Rattle.std.specs.List.{list_all}
use Rattle.serde_json.specs.Data.{Data}
use Rattle.serde_json.specs.Find.{get, as_str}
use Rattle.ct_base.specs.declared.defs.Resource.{Resource}
use Rattle.ct_spec.specs.declared.fault.SpecFault.{SpecFault}
use Rattle.ct_spec.specs.declared.fault.SpecFault.TheVariants.{BadId, TwiceId, BadSlots}
use Rattle.ct_spec.specs.Json.{whole}
use Rattle.ct_base.specs.Names.{is_among}
use Rattle.ct_base.specs.Resources.{most_slots}
use Rattle.ct_base.specs.TypeNames.{is_name_byte}

-- the text is the id of a resource
abbrev pub is_id : List ℕ → Bool
is_id text = not (length text == 0) && list_all is_name_byte text

-- the text, if it is an id
abbrev pub checked_id : List ℕ → Option (List ℕ)
checked_id text = if is_id text then Some text else None

-- the id of an entry, if it has a valid one
abbrev pub id_in : Data → Option (List ℕ)
id_in entry = option_and_then checked_id (option_and_then as_str (get (codes "id") entry))

-- the number of slots, if it is at most the greatest
abbrev pub checked_slots : ℕ → Option ℕ
checked_slots slots = if nat_le slots most_slots then Some slots else None

-- the slots in a member, if they are valid; 1 where the member is absent
abbrev pub slots_said : Option Data → Option ℕ
slots_said None = Some 1
slots_said (Some value) = option_and_then checked_slots (whole value)

-- the slots of an entry, if they are valid
abbrev pub slots_in : Data → Option ℕ
slots_in entry = slots_said (get (codes "slots") entry)

-- the resource with this id, or BadSlots where the slots are not valid
abbrev pub resource_with : List ℕ → ℕ → List ℕ → Option ℕ → Result Resource SpecFault
resource_with kind place id None = Err (BadSlots kind place)
resource_with kind place id (Some slots) = Ok (record { kind = kind; id = id; slots = slots })

-- the resource of the entry at a place, behind entries with these ids; the id is checked before the slots
abbrev pub resource_for : List ℕ → ℕ → List (List ℕ) → Option (List ℕ) → Option ℕ → Result Resource SpecFault
resource_for kind place ids None slots = Err (BadId kind place)
resource_for kind place ids (Some id) slots =
    if is_among id ids then Err (TwiceId kind place) else resource_with kind place id slots

-- the resource that an entry declares, or its fault
abbrev pub resource_in : List ℕ → ℕ → List (List ℕ) → Data → Result Resource SpecFault
resource_in kind place ids entry = resource_for kind place ids (id_in entry) (slots_in entry)
