-- Looking into JSON. Source: RFC 8259, as `serde_json` reads it.
use Rattle.std.specs.Prelude.{ℕ, List, Option, Some, None, option_and_then, if◌then◌else◌}
use Rattle.std.specs.Str.{is_utf8}
use Rattle.serde_json.specs.Data.{Data, Items, no_items, item}
use Rattle.serde_json.specs.Read.{read}
use Rattle.serde_json.specs.Find.{get, as_number, as_u64}

-- the JSON value of a text, if `serde_json` accepts it; a text that is not UTF-8 is refused
abbrev pub json_in : List ℕ → Option Data
json_in text = if is_utf8 text then read text else None

-- the whole number that a value is, if it is one
abbrev pub whole : Data → Option ℕ
whole value = option_and_then as_u64 (as_number value)

-- the whole number in the member of that name, if there is one
abbrev pub whole_at : List ℕ → Data → Option ℕ
whole_at name value = option_and_then whole (get name value)

-- the item of an array that has exactly one
abbrev pub only_item : Items → Option Data
only_item no_items = None
only_item (item first no_items) = Some first
only_item (item first (item next items)) = None
