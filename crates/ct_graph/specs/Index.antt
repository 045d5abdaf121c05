-- The members that are not disabled, by the names through which others wait for them. This project's own.
use Rattle.std.specs.Prelude.{◌≡◌, ℕ, ◌≤◌, ◌<◌, bytes_eq, Bool, true, false, not, ◌&&◌, ◌||◌, List, All, length, Option, Some, None, ◌==◌}
use Rattle.std.specs.List.{list_any}
use Rattle.std.specs.List.Sorted.{IsStrictlyIncreasing}
use Rattle.ct_base.specs.declared.defs.TestDef.{TestDef}
use Rattle.ct_base.specs.Numbers.{is_in}
use Rattle.ct_props.specs.declared.props.Props.{Props}
use Rattle.ct_props.specs.Numbered.{at_number}
use Rattle.ct_graph.specs.ByName.{tests_of, is_found_in}
use Rattle.ct_graph.specs.Found.{IsEmpty, Knows}
use Rattle.ct_graph.specs.declared.index.Index.{Index}
use Rattle.ct_graph.specs.declared.index.Search.{Search}
use Rattle.ct_base.specs.Names.{is_among}

-- a test that is not disabled has this name
abbrev pub has_own_name : List ℕ → Option TestDef → Option Props → Bool
has_own_name name (Some def) (Some props) = not props.disabled && bytes_eq name def.name
has_own_name name _ _ = false

-- a test that is not disabled sets up this fixture
abbrev pub has_setup : List ℕ → Option Props → Bool
has_setup fixture None = false
has_setup fixture (Some props) = not props.disabled && is_among fixture props.setup

-- a test that is not disabled requires this fixture
abbrev pub has_required : List ℕ → Option Props → Bool
has_required fixture None = false
has_required fixture (Some props) = not props.disabled && is_among fixture props.required

-- the test cleans some fixture
abbrev pub cleans_some : Props → Bool
cleans_some props = not (length props.cleanup == 0)

-- some test cleans some fixture
abbrev pub has_cleanup : List Props → Bool
has_cleanup props = list_any cleans_some props

-- the members are found by their names, by the fixtures that they set up, and, if some test cleans a fixture,
-- by those that they require
pub record IsIndex
    (defs : List TestDef) (props : List Props) (members : List ℕ) (names setups users : List ℕ → List ℕ)
    : Type 0 where
  pub by_name : (name : List ℕ) (n : ℕ)
      → is_in (names name) n ≡ (is_in members n && has_own_name name (at_number defs n) (at_number props n))
  pub by_setup : (fixture : List ℕ) (n : ℕ)
      → is_in (setups fixture) n ≡ (is_in members n && has_setup fixture (at_number props n))
  pub by_user : has_cleanup props ≡ true → (fixture : List ℕ) (n : ℕ)
      → is_in (users fixture) n ≡ (is_in members n && has_required fixture (at_number props n))

-- each member is the number of one of `most` tests
abbrev pub AreMembers : ℕ → List ℕ → Type 0
AreMembers most members = All (λ number. (0 < number) × (number ≤ most)) members

-- what holds of an index: each test has its properties, and the members are tests, ascend, and are found
pub record Indexed (index : Index) : Type 0 where
  pub paired : length index.props.now ≡ length index.defs.now
  pub inside : AreMembers (length index.props.now) index.members.now
  pub ascending : IsStrictlyIncreasing index.members.now
  pub found :
      IsIndex index.defs.now index.props.now index.members.now (tests_of index.names) (tests_of index.setups)
      (tests_of index.users)

-- an index over these tests and members, in which `some` of the members are found
pub record IsIndexAt (defs : List TestDef) (props : List Props) (members some : List ℕ) (index : Index)
    : Type 0 where
  pub defs_are : index.defs.now ≡ defs
  pub props_are : index.props.now ≡ props
  pub members_are : index.members.now ≡ members
  pub cleans_is : index.cleans ≡ has_cleanup props
  pub indexed : IsIndex defs props some (tests_of index.names) (tests_of index.setups) (tests_of index.users)

-- the index has one more test, unless that test is disabled
pub record AddsTest (number : ℕ) (old new : Index) : Type 0 where
  pub same_defs : new.defs ≡ old.defs
  pub same_props : new.props ≡ old.props
  pub same_members : new.members ≡ old.members
  pub same_cleans : new.cleans ≡ old.cleans
  pub by_name : (name : List ℕ) (n : ℕ)
      → is_in (tests_of new.names name) n
      ≡ (is_in (tests_of old.names name) n
      || (has_own_name name (at_number old.defs.now number) (at_number old.props.now number)
      && number == n))
  pub by_setup : (fixture : List ℕ) (n : ℕ)
      → is_in (tests_of new.setups fixture) n
      ≡ (is_in (tests_of old.setups fixture) n
      || (has_setup fixture (at_number old.props.now number) && number == n))
  pub by_user : old.cleans ≡ true → (fixture : List ℕ) (n : ℕ)
      → is_in (tests_of new.users fixture) n
      ≡ (is_in (tests_of old.users fixture) n
      || (has_required fixture (at_number old.props.now number) && number == n))

-- the found tests are the old ones and those that these properties find: by the names in DEPENDS, by the
-- required fixtures, and as users or setups of the cleaned fixtures
abbrev pub FindsBefore : (List ℕ → List ℕ)
    → (List ℕ → List ℕ) → (List ℕ → List ℕ) → Props → List ℕ → List ℕ → Type 0
FindsBefore names setups users props old new =
    (n : ℕ)
    → is_in new n
    ≡ (is_in old n
    || is_found_in names props.depends n
    || is_found_in setups props.required n
    || is_found_in users props.cleanup n
    || is_found_in setups props.cleanup n)

-- a search that has found nothing yet, and whose known tests are those that fixtures find in the index
pub record IsReadySearch (index : Index) (search : Search) : Type 0 where
  pub empty : IsEmpty search.found
  pub setups : Knows (tests_of index.setups) search.setups
  pub users : Knows (tests_of index.users) search.users
