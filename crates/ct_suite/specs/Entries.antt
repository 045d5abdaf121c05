-- What contracts see of tests and variables that are kept by their keys.
use Rattle.std.specs.Prelude.{ℕ, zero, suc, ◌+◌, ◌≡◌, bytes_eq, List, [], ◌∷◌, map, count_by, Option, Some, None, if◌then◌else◌}
use Rattle.std.specs.declared.vec.Vec.{Vec}
use Rattle.ct_base.specs.declared.defs.TestDef.{TestDef}
use Rattle.ct_suite.specs.Values.{Variable}
use Rattle.ct_suite.specs.Tests.{each_where}
use Rattle.ct_suite.specs.declared.open_test.OpenTest.{OpenTest}
use Rattle.ct_suite.specs.declared.places.KeyPlaces.{KeyPlaces}
use Rattle.ct_suite.specs.declared.places.KeyPlaces.TheVariants.{One, Many}

-- the test that is defined, with the properties so far
abbrev pub def_of : OpenTest → TestDef
def_of test = record {
  name = test.name;
  command = test.command;
  dir = test.dir;
  props = test.props;
  dir_labels = test.dir_labels;
}

-- a variable that is kept by its name
abbrev pub variable_of : {Z : Type 0} → Vec ℕ Z × Option (List ℕ) → Variable
variable_of entry = record { name = entry.0.items; value = entry.1 }

-- the places of one key, in order
abbrev pub places_of : KeyPlaces → List ℕ
places_of (One place) = place ∷ []
places_of (Many places) = places.items

-- the places that are kept by a key; none where the key is absent
abbrev pub places_by_key : {Y : Type 0} → List (Vec ℕ Y × KeyPlaces) → List ℕ → List ℕ
places_by_key [] key = []
places_by_key (entry ∷ entries) key =
    if bytes_eq key entry.0.items then places_of entry.1 else places_by_key entries key

-- the places, counted from `first`, at which the key stands among these keys
abbrev pub positions : ℕ → List ℕ → List (List ℕ) → List ℕ
positions first key [] = []
positions first key (other ∷ keys) =
    if bytes_eq key other then first ∷ positions (first + 1) key keys else positions (first + 1) key keys

-- the names of the tests
abbrev pub names_of : List TestDef → List (List ℕ)
names_of tests = map (λ (test : TestDef). test.name) tests

-- the folders of the tests
abbrev pub dirs_of : List TestDef → List (List ℕ)
dirs_of tests = map (λ (test : TestDef). test.dir) tests

-- each key is kept with all the places at which it stands among these keys
abbrev pub AreIndexed : {Y : Type 0} → List (Vec ℕ Y × KeyPlaces) → List (List ℕ) → Type 0
AreIndexed entries keys = (key : List ℕ) → places_by_key entries key ≡ positions 0 key keys

-- a list with the item at a place changed
abbrev pub changed : {A : Type 0} → (A → A) → ℕ → List A → List A
changed change place [] = []
changed change zero (x ∷ xs) = change x ∷ xs
changed change (suc place) (x ∷ xs) = x ∷ changed change place xs

-- a list with the items at these places changed in turn
abbrev pub changed_at : {A : Type 0} → (A → A) → List ℕ → List A → List A
changed_at change [] xs = xs
changed_at change (place ∷ places) xs = changed_at change places (changed change place xs)

-- the first value and the others, if there is a first one
abbrev pub taken_apart : List (List ℕ) → Option (List ℕ × List (List ℕ))
taken_apart [] = None
taken_apart (first ∷ rest) = Some (first, rest)

-- the tests, with each test of that name changed
abbrev pub of_name : (TestDef → TestDef) → List TestDef → List ℕ → List TestDef
of_name change tests name = each_where (λ (test : TestDef). bytes_eq name test.name) change tests

-- how many tests have the name
abbrev pub name_count : List TestDef → List ℕ → ℕ
name_count tests name = count_by (λ (test : TestDef). bytes_eq name test.name) tests
