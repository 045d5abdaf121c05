-- The tests of a run as JSON, for editors. Source: CMake manual, ctest(1), Show as JSON Object Model. That
-- each test has its number and the configuration, and that each property's value is a text,
-- is this project's choice.
use Rattle.std.specs.Prelude.{ℕ, zero, suc, List, ◌++◌, map, codes, Option, None, option_map, slice_get}
use Rattle.std.specs.List.{filter_map}
use Rattle.serde_json.specs.Data.{Data, unsigned, number, string, array, object, no_members, member}
use Rattle.serde_json.specs.View.{items_of}
use Rattle.serde_json.specs.Written.{compact_text}
use Rattle.ct_base.specs.declared.defs.Pair.{Pair}
use Rattle.ct_base.specs.declared.defs.TestDef.{TestDef}
use Rattle.ct_info.specs.Text.{shown}

-- the JSON text of a name
abbrev pub text_value : List ℕ → Data
text_value name = string (shown name)

-- the object of a property: its name and its value, both as texts
abbrev pub property_value : Pair → Data
property_value pair =
    object
    (member (codes "name") (text_value pair.name) (member (codes "value") (text_value pair.value) no_members))

-- the object of a test with this number in this configuration;
-- the properties are in the order of the definition
abbrev pub test_value : List ℕ → ℕ → TestDef → Data
test_value config n def =
    object
    (member (codes "command") (array (items_of (map text_value def.command)))
    (member (codes "config") (string config)
    (member (codes "name") (text_value def.name)
    (member (codes "number") (number (unsigned n))
    (member (codes "properties") (array (items_of (map property_value def.props))) no_members)))))

-- The test with this number, counted from 1. It is the same as `at_number` of ct_props,
-- on which this crate does not stand.
abbrev pub def_at : List TestDef → ℕ → Option TestDef
def_at defs zero = None
def_at defs (suc place) = slice_get defs place

-- the objects of the tests with these numbers, in the order of the numbers;
-- a number without a test is left out
abbrev pub test_values : List ℕ → List TestDef → List ℕ → List Data
test_values config defs members = filter_map (λ n. option_map (test_value config n) (def_at defs n)) members

-- the version of the object model: 1.0
abbrev pub version_value : Data
version_value =
    object
    (member (codes "major") (number (unsigned 1)) (member (codes "minor") (number (unsigned 0)) no_members))

-- the whole object: its kind, the tests with these numbers in this configuration, and its version
abbrev pub info_value : List TestDef → List ℕ → List ℕ → Data
info_value defs members config =
    object
    (member (codes "kind") (string (codes "ctestInfo"))
    (member (codes "tests") (array (items_of (test_values (shown config) defs members)))
    (member (codes "version") version_value no_members)))

-- the text of a value: one line with its line feed
abbrev pub info_text : Data → List ℕ
info_text value = compact_text value ++ codes "\n"
