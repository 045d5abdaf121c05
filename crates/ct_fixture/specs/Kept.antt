-- What is kept while fixtures are looked at: the tests by the fixtures that they name, and the tests that are
-- in. This project's own.
use Rattle.std.specs.Prelude.{◌≡◌, ℕ, ◌+◌, Bool, true, false, not, ◌&&◌, ◌||◌, ◌<◌, bytes_eq, All, List, [], length, slice_index_or, count_by, Option, Some, None, if◌then◌else◌}
use Rattle.std.specs.declared.vec.Vec.{Vec}
use Rattle.indexmap.specs.IndexMap.{IndexMap, get_by}
use Rattle.ct_base.specs.Numbers.{is_in}
use Rattle.ct_props.specs.declared.props.Props.{Props}
use Rattle.ct_props.specs.declared.wanted.Choice.{Choice}
use Rattle.ct_fixture.specs.declared.fixtures.Fixtures.{Fixtures}
use Rattle.ct_fixture.specs.declared.members.Members.{Members}
use Rattle.ct_fixture.specs.declared.patterns.FixtureMatchers.{FixtureMatchers}
use Rattle.ct_props.specs.Numbered.{at_number}
use Rattle.ct_fixture.specs.Drawing.{is_drawn, keeps_setups, keeps_cleanups}
use Rattle.ct_fixture.specs.Matching.{AreFixtureMatchersOf}
use Rattle.ct_base.specs.Names.{is_among}
use Rattle.ct_base.specs.Found.{or_none}

-- the tests that are kept for a fixture
abbrev pub fixture_tests : {Y Z S : Type 0} → IndexMap (Vec ℕ Y) (Vec ℕ Z) S → List ℕ → List ℕ
fixture_tests {Y} tests fixture = or_none (get_by (λ (name : Vec ℕ Y). bytes_eq fixture name.items) tests)

-- the test is not disabled, and names the fixture in this property
abbrev pub names_fixture : (Props → List (List ℕ)) → List ℕ → Option Props → Bool
names_fixture property fixture None = false
names_fixture property fixture (Some own) = not own.disabled && is_among fixture (property own)

-- each fixture has those tests that name it in this property
abbrev pub AreNamed : {Y Z S : Type 0}
    → (Props → List (List ℕ)) → List Props → IndexMap (Vec ℕ Y) (Vec ℕ Z) S → Type 0
AreNamed property props tests =
    (fixture : List ℕ) (number : ℕ)
    → is_in (fixture_tests tests fixture) number ≡ names_fixture property fixture (at_number props number)

-- neither the setups nor the cleanups of a fixture have been taken yet
pub record AreUntaken (props : List Props) (fixtures : Fixtures) : Type 0 where
  pub setups : AreNamed (λ own. own.setup) props fixtures.setups
  pub cleanups : AreNamed (λ own. own.cleanup) props fixtures.cleanups

-- the test with this number is in
abbrev pub is_drawn_in : Members → ℕ → Bool
is_drawn_in members number = slice_index_or members.marks.items number false

-- how many marks are not set, plus how many tests wait
abbrev pub open_count : Members → ℕ
open_count members = count_by not members.marks.items + length members.waiting.items

-- tests may have come in, and none has left. Each new one waits, each that waited still waits, and only tests
-- that are in wait. The `open_count` stays.
pub record Extends (before now : Members) : Type 0 where
  pub long : length now.marks.items ≡ length before.marks.items
  pub kept : (number : ℕ) → is_drawn_in before number ≡ true → is_drawn_in now number ≡ true
  pub waits : (number : ℕ) → is_drawn_in now number ≡ true → is_drawn_in before number ≡ false
      → is_in now.waiting.items number ≡ true
  pub waits_still :
      (number : ℕ) → is_in before.waiting.items number ≡ true → is_in now.waiting.items number ≡ true
  pub waits_in : ((number : ℕ) → is_in before.waiting.items number ≡ true → is_drawn_in before number ≡ true)
      → (number : ℕ) → is_in now.waiting.items number ≡ true → is_drawn_in now number ≡ true
  pub count : open_count now ≡ open_count before

-- these tests are added
pub record AddsTests (tests : List ℕ) (before now : Members) : Type 0 where
  pub extends : Extends before now
  pub is : (number : ℕ) → is_drawn_in now number ≡ (is_drawn_in before number || is_in tests number)

-- what the fixtures have left of the tests that name them in this property. Only tests that name a fixture
-- are left for it. Each of these that is not in is left, unless the fixture is kept out.
pub record IsLeft
    {Y Z S : Type 0} (property : Props → List (List ℕ)) (keeps : List ℕ → Bool) (props : List Props)
    (tests : IndexMap (Vec ℕ Y) (Vec ℕ Z) S) (members : Members) : Type 0 where
  pub named : (fixture : List ℕ) (number : ℕ) → is_in (fixture_tests tests fixture) number ≡ true
      → names_fixture property fixture (at_number props number) ≡ true
  pub left : (fixture : List ℕ) (number : ℕ) → names_fixture property fixture (at_number props number) ≡ true
      → keeps fixture ≡ false
      → (is_in (fixture_tests tests fixture) number || is_drawn_in members number) ≡ true

-- there is a mark for each number, and the fixtures have left the setups and cleanups that are not in
pub record AreLeft (choice : Choice) (props : List Props) (fixtures : Fixtures) (members : Members)
    : Type 0 where
  pub long : length members.marks.items ≡ length props + 1
  pub setups : IsLeft (λ own. own.setup) (keeps_setups choice) props fixtures.setups members
  pub cleanups : IsLeft (λ own. own.cleanup) (keeps_cleanups choice) props fixtures.cleanups members

-- the tests that these fixtures draw in are added
pub record Draws (choice : Choice) (props : List Props) (fixtures : List (List ℕ)) (before now : Members)
    : Type 0 where
  pub extends : Extends before now
  pub is : (number : ℕ)
      → is_drawn_in now number
      ≡ (is_drawn_in before number || is_drawn choice fixtures (at_number props number))

-- the tests of a fixture, unless they are kept out
abbrev pub given : Bool → List ℕ → List ℕ
given keeps tests = if keeps then [] else tests

-- each test that a fixture has left has a mark
pub record HaveMarks (fixtures : Fixtures) (members : Members) : Type 0 where
  pub setups : (fixture : List ℕ)
      → All (λ number. number < length members.marks.items) (fixture_tests fixtures.setups fixture)
  pub cleanups : (fixture : List ℕ)
      → All (λ number. number < length members.marks.items) (fixture_tests fixtures.cleanups fixture)

-- whatever the choice and the properties are: where the matchers were those of the choice, and the fixtures
-- had left the tests that are not in, both still hold, and the tests that these fixtures draw in are added
abbrev pub TakesFixtures : List (List ℕ)
    → FixtureMatchers → Fixtures → Members → FixtureMatchers → Fixtures → Members → Type 0
TakesFixtures names matchers before members later now more =
    (choice : Choice) (props : List Props)
    → AreFixtureMatchersOf choice matchers → AreLeft choice props before members
    → AreFixtureMatchersOf choice later × AreLeft choice props now more
    × Draws choice props names members more
