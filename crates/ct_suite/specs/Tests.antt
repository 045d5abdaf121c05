-- What commands do to the tests that are defined so far.
-- Source: CMake manual, add_test, set_tests_properties and set_directory_properties.
-- This project's own: how names that no test has, repeated keys and the labels of a folder are read.
use Rattle.std.specs.Prelude.{ℕ, ◌≤◌, Bool, bytes_eq, codes, List, [], ◌∷◌, ◌++◌, length, map, fold, sum_by, All, if◌then◌else◌}
use Rattle.std.specs.List.{flat_map}
use Rattle.ct_base.specs.Entries.{entries_of}
use Rattle.ct_base.specs.Names.{is_among}
use Rattle.ct_base.specs.declared.defs.Pair.{Pair}
use Rattle.ct_base.specs.declared.defs.TestDef.{TestDef}
use Rattle.ct_suite.specs.declared.limits.TheConstants.{MOST_BYTES, MOST_TESTS}

-- the greatest number of tests in a tree
abbrev pub most_tests : ℕ
most_tests = MOST_TESTS

-- the greatest number of bytes in a value
abbrev pub most_bytes : ℕ
most_bytes = MOST_BYTES

-- each of these values has at most `most` bytes
abbrev pub AreShort : ℕ → List (List ℕ) → Type 0
AreShort most values = All (λ (value : List ℕ). length value ≤ most) values

-- the value of each of these properties has at most `most` bytes
abbrev pub HaveShort : ℕ → List Pair → Type 0
HaveShort most props = All (λ (prop : Pair). length prop.value ≤ most) props

-- each value of a test has at most `most` bytes: its name, the words of its command,
-- the values of its properties and the labels of its folder
pub record HasShortValues (most : ℕ) (test : TestDef) : Type 0 where
  pub name : length test.name ≤ most
  pub command : AreShort most test.command
  pub props : HaveShort most test.props
  pub labels : AreShort most test.dir_labels

-- a new test of a folder, without properties and labels
abbrev pub new_test : List ℕ → List ℕ → List (List ℕ) → TestDef
new_test dir name command = record { name = name; command = command; dir = dir; props = []; dir_labels = [] }

-- the properties after one was set: it takes the place of the one with its key, or goes to the end
abbrev pub with_prop : List Pair → Pair → List Pair
with_prop [] prop = prop ∷ []
with_prop (first ∷ props) prop =
    if bytes_eq prop.name first.name then prop ∷ props else first ∷ with_prop props prop

-- the properties after each of these was set in turn
abbrev pub with_props : List Pair → List Pair → List Pair
with_props props more = fold with_prop props more

-- the tests, with each test that passes changed
abbrev pub each_where : (TestDef → Bool) → (TestDef → TestDef) → List TestDef → List TestDef
each_where passes change tests = map (λ (test : TestDef). if passes test then change test else test) tests

-- the test has one of these names
abbrev pub has_name_of : List (List ℕ) → TestDef → Bool
has_name_of names test = is_among test.name names

-- the test belongs to this folder
abbrev pub is_in_folder : List ℕ → TestDef → Bool
is_in_folder dir test = bytes_eq dir test.dir

-- the test with these properties set
abbrev pub taking_props : List Pair → TestDef → TestDef
taking_props props test = record test { props = with_props test.props props }

-- the test with these labels of its folder added
abbrev pub taking_labels : List (List ℕ) → TestDef → TestDef
taking_labels labels test = record test { dir_labels = test.dir_labels ++ labels }

-- how many bytes the values of the properties have together
abbrev pub prop_bytes : List Pair → ℕ
prop_bytes props = sum_by (λ (prop : Pair). length prop.value) props

-- the property of a folder adds labels to its tests: its key is LABELS
abbrev pub is_labels : Pair → Bool
is_labels prop = bytes_eq prop.name (codes "LABELS")

-- the labels that a property of a folder adds: the entries of the value of LABELS; other keys have no effect
abbrev pub labels_in : Pair → List (List ℕ)
labels_in prop = if is_labels prop then entries_of prop.value else []

-- the labels that properties of a folder add
abbrev pub labels_of : List Pair → List (List ℕ)
labels_of props = flat_map labels_in props

-- how many bytes the values of LABELS have together
abbrev pub label_bytes : List Pair → ℕ
label_bytes props = sum_by (λ (prop : Pair). if is_labels prop then length prop.value else 0) props
