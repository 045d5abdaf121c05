-- The tests that fixtures have left: while they are found, and while they are taken.
use Rattle.std.proofs.Common.{◌≡◌, ℕ, suc, ◌+◌, ◌<◌, ◌≤◌, Bool, true, false, cond, eqb, leb, not, ◌&&◌, ◌||◌, bytes_eq, List, [], ◌∷◌, length, get_or, take, All, Option, Some, None, inl, inr, refl, sym, ap, ◌∙◌, subst, arith}
use Rattle.std.proofs.lemmas.Bool.{false≢true, eqb-true, eq-eqb, ne_eqb, le-leb, lt-leb, or_left, or_right, or_cases, cases_eq, cases_lt}
use Rattle.std.proofs.lemmas.List.Elements.{All-nil}
use Rattle.std.proofs.lemmas.List.Folds.{list_any_at, list_any_more}
use Rattle.std.proofs.lemmas.Slice.Eq.{bytes_eq-Decides}
use Rattle.indexmap.specs.IndexMap.{IndexMap, index_map_len}
use Rattle.std.specs.declared.vec.Vec.{Vec}
use Rattle.std.proofs.Math.Bool.{or-false, or_assoc, and-false}
use Rattle.ct_base.specs.Numbers.{is_in}
use Rattle.ct_regex.specs.declared.pattern.Regex.{Regex}
use Rattle.ct_props.specs.declared.props.Props.{Props}
use Rattle.ct_props.specs.declared.wanted.Choice.{Choice}
use Rattle.ct_fixture.specs.declared.fixtures.Fixtures.{Fixtures}
use Rattle.ct_fixture.specs.declared.members.Members.{Members}
use Rattle.ct_props.specs.Numbered.{at_number}
use Rattle.ct_fixture.specs.Drawing.{is_drawn, is_hit, draws, required_by, keeps_cleanups, keeps_setups}
use Rattle.ct_fixture.specs.Kept.{AddsTests, AreLeft, AreNamed, Draws, HaveMarks, IsLeft, given, is_drawn_in, names_fixture, fixture_tests}
use Rattle.ct_fixture.proofs.IndexLemmas.{none_there}
use Rattle.ct_fixture.proofs.MemberLemmas.{adds_same, extends_on}
use Rattle.ct_props.proofs.NumberedLemmas.{at_number_here, number_within}
use Rattle.ct_base.specs.Names.{is_among}

-- what holds of each number in a list holds of all its numbers
pub all_in : (P : ℕ → Type 0) (numbers : List ℕ) → ((number : ℕ) → is_in numbers number ≡ true → P number) → All P numbers
all_in P numbers each = λ k d within. each (get_or numbers k d) (list_any_at (λ n. eqb n (get_or numbers k d)) numbers k d within (eq-eqb (get_or numbers k d) (get_or numbers k d) refl))

names_there : (property : Props → List (List ℕ)) (props : List Props) (fixture : List ℕ) (number : ℕ) (own : Option Props) → at_number props number ≡ own → names_fixture property fixture own ≡ true → (1 ≤ number) × (number ≤ length props)
names_there property props fixture number None is named = absurd (false≢true named)
names_there property props fixture number (Some own) is named = number_within props number own is

-- a test that names a fixture has a number
pub named_number : (property : Props → List (List ℕ)) (props : List Props) (fixture : List ℕ) (number : ℕ) → names_fixture property fixture (at_number props number) ≡ true → (1 ≤ number) × (number ≤ length props)
named_number property props fixture number named = names_there property props fixture number (at_number props number) refl named

same_low : (at number : ℕ) → (number ≡ at + 1 → ⊥) → leb number at ≡ leb number (at + 1)
same_low at number other =
    elim (cases_lt at number) [
      | inl above ↦ lt-leb number at above ∙ sym (lt-leb number (at + 1) (omega (arith, above, other)))
      | inr below ↦ le-leb number at below ∙ sym (le-leb number (at + 1) (omega (arith, below)))
    ]

step_by : (at number : ℕ) (names_now among : Bool) → (number ≡ at + 1 → names_now ≡ among) → ((leb number at && names_now) || (eqb (at + 1) number && among)) ≡ (leb number (at + 1) && names_now)
step_by at number names_now among here =
    elim (cases_eq number (at + 1)) [
      | inl same ↦
          ap (λ low. (low && names_now) || (eqb (at + 1) number && among)) (lt-leb number at (omega (arith, same)))
          ∙ ap (λ is. is && among) (eq-eqb (at + 1) number (sym same))
          ∙ sym (here same)
          ∙ sym (ap (λ low. low && names_now) (le-leb number (at + 1) (omega (arith, same))))
      | inr other ↦
          ap (λ is. (leb number at && names_now) || (is && among)) (ne_eqb (at + 1) number (λ same. other (sym same)))
          ∙ or-false (leb number at && names_now)
          ∙ ap (λ low. low && names_now) (same_low at number other)
    ]

names_here : (property : Props → List (List ℕ)) (fixture : List ℕ) (own : Props) (disabled : Bool) → own.disabled ≡ disabled → names_fixture property fixture (Some own) ≡ (not disabled && is_among fixture (property own))
names_here property fixture own disabled is = ap (λ d. not d && is_among fixture (property own)) is

low_within : (count number : ℕ) (named : Bool) → (named ≡ true → number ≤ count) → (leb number count && named) ≡ named
low_within count number true within = ap (λ low. low && true) (le-leb number count (within refl))
low_within count number false within = and-false (leb number count)

none_low : (number : ℕ) (named : Bool) → (named ≡ true → 1 ≤ number) → false ≡ (leb number 0 && named)
none_low number true low = sym (ap (λ l. l && true) (lt-leb number 0 (omega (arith, low refl))))
none_low number false low = sym (and-false (leb number 0))

drawn_by_side : (there named member keeps : Bool) (tests : List ℕ) (number : ℕ) → is_in tests number ≡ there → (there ≡ true → named ≡ true) → (named ≡ true → keeps ≡ false → (there || member) ≡ true) → (member || is_in (given keeps tests) number) ≡ (member || (named && not keeps))
drawn_by_side there named true keeps tests number is sound left = refl
drawn_by_side there true false true tests number is sound left = refl
drawn_by_side there false false true tests number is sound left = refl
drawn_by_side true named false false tests number is sound left = is ∙ sym (ap (λ n. n && true) (sound refl))
drawn_by_side false true false false tests number is sound left = absurd (false≢true (left refl refl))
drawn_by_side false false false false tests number is sound left = is

-- what holds of the tests of a fixture holds of those that are given
pub given_all : (P : ℕ → Type 0) (kept : Bool) (tests : List ℕ) → All P tests → All P (given kept tests)
given_all P true tests all = All-nil P
given_all P false tests all = all

module _ {Y Z S : Type 0} where
  -- each fixture has those of the first tests that name it in this property
  abbrev pub AreNamedTo : ℕ → (Props → List (List ℕ)) → List Props → IndexMap (Vec ℕ Y) (Vec ℕ Z) S → Type 0
  AreNamedTo at property props tests = (fixture : List ℕ) (number : ℕ) → is_in (fixture_tests tests fixture) number ≡ (leb number at && names_fixture property fixture (at_number props number))

  -- before a test is looked at, no fixture has a test
  pub named_first : (property : Props → List (List ℕ)) (props : List Props) (tests : IndexMap (Vec ℕ Y) (Vec ℕ Z) S) → index_map_len tests ≡ 0 → AreNamedTo 0 property props tests
  named_first property props tests none = λ fixture number.
      ap (λ here. is_in here number) (none_there tests none fixture)
      ∙ none_low number (names_fixture property fixture (at_number props number)) (λ named. (named_number property props fixture number named).0)

  -- with one more test that is not disabled
  pub named_more : (property : Props → List (List ℕ)) (props : List Props) (at number : ℕ) (own : Props) (fixtures : List (List ℕ)) (before now : IndexMap (Vec ℕ Y) (Vec ℕ Z) S) → at < length props → own ≡ get_or props at own → own.disabled ≡ false → number ≡ at + 1 → fixtures ≡ property own
      → ((asked : List ℕ) (test : ℕ) → is_in (fixture_tests now asked) test ≡ (is_in (fixture_tests before asked) test || (eqb number test && is_among asked fixtures))) → AreNamedTo at property props before → AreNamedTo (at + 1) property props now
  named_more property props at number own fixtures before now within is enabled is_number are_fixtures noted named = λ fixture test.
      noted fixture test
      ∙ ap (λ n. is_in (fixture_tests before fixture) test || (eqb n test && is_among fixture fixtures)) is_number
      ∙ ap (λ fs. is_in (fixture_tests before fixture) test || (eqb (at + 1) test && is_among fixture fs)) are_fixtures
      ∙ ap (λ was. was || (eqb (at + 1) test && is_among fixture (property own))) (named fixture test)
      ∙ step_by at test (names_fixture property fixture (at_number props test)) (is_among fixture (property own)) (λ same. ap (λ n. names_fixture property fixture (at_number props n)) same ∙ ap (names_fixture property fixture) (at_number_here props at own within is) ∙ names_here property fixture own false enabled)

  -- with one more test that is disabled
  pub named_still : (property : Props → List (List ℕ)) (props : List Props) (at : ℕ) (own : Props) (tests : IndexMap (Vec ℕ Y) (Vec ℕ Z) S) → at < length props → own ≡ get_or props at own → own.disabled ≡ true → AreNamedTo at property props tests → AreNamedTo (at + 1) property props tests
  named_still property props at own tests within is disabled named = λ fixture number.
      named fixture number
      ∙ sym (or-false (leb number at && names_fixture property fixture (at_number props number)))
      ∙ ap (λ none. (leb number at && names_fixture property fixture (at_number props number)) || none) (sym (and-false (eqb (at + 1) number)))
      ∙ step_by at number (names_fixture property fixture (at_number props number)) false (λ same. ap (λ n. names_fixture property fixture (at_number props n)) same ∙ ap (names_fixture property fixture) (at_number_here props at own within is) ∙ names_here property fixture own true disabled)

  -- what holds of a map of tests holds of an equal one
  pub named_as : (at : ℕ) (property : Props → List (List ℕ)) (props : List Props) (tests others : IndexMap (Vec ℕ Y) (Vec ℕ Z) S) → others ≡ tests → AreNamedTo at property props tests → AreNamedTo at property props others
  named_as at property props tests others same named = subst (AreNamedTo at property props) (sym same) named

  -- once all tests are looked at, each fixture has the tests that name it
  pub named_all : (property : Props → List (List ℕ)) (props : List Props) (at : ℕ) (tests : IndexMap (Vec ℕ Y) (Vec ℕ Z) S) → at ≡ length props → AreNamedTo at property props tests → AreNamed property props tests
  named_all property props at tests end named = λ fixture number.
      named fixture number
      ∙ low_within at number (names_fixture property fixture (at_number props number)) (λ is. let there = named_number property props fixture number is in omega (arith, there.1, end))

  -- before a test is taken, all tests are left
  pub left_first : (property : Props → List (List ℕ)) (keeps : List ℕ → Bool) (props : List Props) (tests : IndexMap (Vec ℕ Y) (Vec ℕ Z) S) (members : Members) → AreNamed property props tests → IsLeft property keeps props tests members
  left_first property keeps props tests members are = record {
    named = λ fixture number there. sym (are fixture number) ∙ there;
    left = λ fixture number named kept. or_left (is_in (fixture_tests tests fixture) number) (is_drawn_in members number) (are fixture number ∙ named);
  }

  -- what is left stays left with more tests that are in
  pub left_on : (property : Props → List (List ℕ)) (keeps : List ℕ → Bool) (props : List Props) (tests : IndexMap (Vec ℕ Y) (Vec ℕ Z) S) (before now : Members) → ((number : ℕ) → is_drawn_in before number ≡ true → is_drawn_in now number ≡ true) → IsLeft property keeps props tests before → IsLeft property keeps props tests now
  left_on property keeps props tests before now stays is = record {
    named = is.named;
    left = λ fixture number named kept. elim (or_cases (is_in (fixture_tests tests fixture) number) (is_drawn_in before number) (is.left fixture number named kept)) [
      | inl there ↦ or_left (is_in (fixture_tests tests fixture) number) (is_drawn_in now number) there
      | inr was ↦ or_right (is_in (fixture_tests tests fixture) number) (is_drawn_in now number) (stays number was)
    ];
  }

  taken_named : (property : Props → List (List ℕ)) (props : List Props) (tests : IndexMap (Vec ℕ Y) (Vec ℕ Z) S) (asked : List ℕ) (number : ℕ) (is : Bool) → is_in (cond is [] (fixture_tests tests asked)) number ≡ true → (is_in (fixture_tests tests asked) number ≡ true → names_fixture property asked (at_number props number) ≡ true) → names_fixture property asked (at_number props number) ≡ true
  taken_named property props tests asked number true there named = absurd (false≢true there)
  taken_named property props tests asked number false there named = named there

  taken_left : (keeps : List ℕ → Bool) (tests : IndexMap (Vec ℕ Y) (Vec ℕ Z) S) (fixture asked : List ℕ) (number : ℕ) (before now : Members) (is : Bool) → bytes_eq asked fixture ≡ is → keeps asked ≡ false → ((test : ℕ) → is_drawn_in now test ≡ (is_drawn_in before test || is_in (given (keeps fixture) (fixture_tests tests fixture)) test)) → (is_in (fixture_tests tests asked) number || is_drawn_in before number) ≡ true → (is_in (cond is [] (fixture_tests tests asked)) number || is_drawn_in now number) ≡ true
  taken_left keeps tests fixture asked number before now true at_it kept is was =
      let same : asked ≡ fixture = (bytes_eq-Decides asked fixture).0 at_it in
      let open_now : keeps fixture ≡ false = ap keeps (sym same) ∙ kept in
      let gives : given (keeps fixture) (fixture_tests tests fixture) ≡ fixture_tests tests asked = ap (λ k. given k (fixture_tests tests fixture)) open_now ∙ ap (fixture_tests tests) (sym same) in
      is number
      ∙ ap (λ taken. is_drawn_in before number || is_in taken number) gives
      ∙ elim (or_cases (is_in (fixture_tests tests asked) number) (is_drawn_in before number) was) [
        | inl there ↦ or_right (is_drawn_in before number) (is_in (fixture_tests tests asked) number) there
        | inr before_now ↦ or_left (is_drawn_in before number) (is_in (fixture_tests tests asked) number) before_now
      ]
  taken_left keeps tests fixture asked number before now false at_it kept is was =
      elim (or_cases (is_in (fixture_tests tests asked) number) (is_drawn_in before number) was) [
        | inl there ↦ or_left (is_in (fixture_tests tests asked) number) (is_drawn_in now number) there
        | inr before_now ↦ or_right (is_in (fixture_tests tests asked) number) (is_drawn_in now number) (is number ∙ or_left (is_drawn_in before number) (is_in (given (keeps fixture) (fixture_tests tests fixture)) number) before_now)
      ]

  -- what is left where the tests of a fixture are taken out, and are in now unless they are kept out
  pub left_taken : (property : Props → List (List ℕ)) (keeps : List ℕ → Bool) (props : List Props) (tests rest : IndexMap (Vec ℕ Y) (Vec ℕ Z) S) (fixture : List ℕ) (before now : Members) → ((asked : List ℕ) → fixture_tests rest asked ≡ cond (bytes_eq asked fixture) [] (fixture_tests tests asked)) → AddsTests (given (keeps fixture) (fixture_tests tests fixture)) before now → IsLeft property keeps props tests before → IsLeft property keeps props rest now
  left_taken property keeps props tests rest fixture before now taken added is = record {
    named = λ asked number there. taken_named property props tests asked number (bytes_eq asked fixture) (ap (λ tests. is_in tests number) (sym (taken asked)) ∙ there) (is.named asked number);
    left = λ asked number named kept. ap (λ numbers. is_in numbers number || is_drawn_in now number) (taken asked) ∙ taken_left keeps tests fixture asked number before now (bytes_eq asked fixture) refl kept added.is (is.left asked number named kept);
  }

  -- the tests that one side of a fixture draws in are those that name it and are not kept out
  pub side_drawn : (property : Props → List (List ℕ)) (keeps : List ℕ → Bool) (props : List Props) (tests : IndexMap (Vec ℕ Y) (Vec ℕ Z) S) (members : Members) (fixture : List ℕ) (number : ℕ) → IsLeft property keeps props tests members → (is_drawn_in members number || is_in (given (keeps fixture) (fixture_tests tests fixture)) number) ≡ (is_drawn_in members number || (names_fixture property fixture (at_number props number) && not (keeps fixture)))
  side_drawn property keeps props tests members fixture number is =
      drawn_by_side (is_in (fixture_tests tests fixture) number) (names_fixture property fixture (at_number props number)) (is_drawn_in members number) (keeps fixture) (fixture_tests tests fixture) number refl (is.named fixture number) (is.left fixture number)

  left_marks : (property : Props → List (List ℕ)) (keeps : List ℕ → Bool) (props : List Props) (tests : IndexMap (Vec ℕ Y) (Vec ℕ Z) S) (members : Members) (long : ℕ) → long ≡ length props + 1 → IsLeft property keeps props tests members → (fixture : List ℕ) → All (λ number. number < long) (fixture_tests tests fixture)
  left_marks property keeps props tests members long is left fixture =
      all_in (λ number. number < long) (fixture_tests tests fixture) (λ number there. let has = named_number property props fixture number (left.named fixture number there) in omega (arith, has.1, is))

-- each test that is left has a mark
pub have_marks : (choice : Choice) (props : List Props) (fixtures : Fixtures) (members : Members) → AreLeft choice props fixtures members → HaveMarks fixtures members
have_marks choice props fixtures members left = record {
  setups = left_marks (λ own. own.setup) (keeps_setups choice) props fixtures.setups members (length members.marks.items) left.long left.setups;
  cleanups = left_marks (λ own. own.cleanup) (keeps_cleanups choice) props fixtures.cleanups members (length members.marks.items) left.long left.cleanups;
}

-- what is left is left for members with the same marks
pub left_still : (choice : Choice) (props : List Props) (fixtures : Fixtures) (before now : Members) → now.marks ≡ before.marks → AreLeft choice props fixtures before → AreLeft choice props fixtures now
left_still choice props fixtures before now same left =
    let stays = λ (number : ℕ) (was : is_drawn_in before number ≡ true). ap (λ marks. get_or marks.items number false) same ∙ was in
    record {
      long = ap (λ marks. length marks.items) same ∙ left.long;
      setups = left_on (λ own. own.setup) (keeps_setups choice) props fixtures.setups before now stays left.setups;
      cleanups = left_on (λ own. own.cleanup) (keeps_cleanups choice) props fixtures.cleanups before now stays left.cleanups;
    }

all_taken : (P : ℕ → Type 0) (is : Bool) (tests : List ℕ) → All P tests → All P (cond is [] tests)
all_taken P true tests all = All-nil P
all_taken P false tests all = all

-- where the tests of a fixture are taken out, those that are left still have marks
pub marks_still : (fixture : List ℕ) (before now : Fixtures) (members more : Members)
    → ((asked : List ℕ) → fixture_tests now.setups asked ≡ cond (bytes_eq asked fixture) [] (fixture_tests before.setups asked))
    → ((asked : List ℕ) → fixture_tests now.cleanups asked ≡ cond (bytes_eq asked fixture) [] (fixture_tests before.cleanups asked))
    → length more.marks.items ≡ length members.marks.items → HaveMarks before members → HaveMarks now more
marks_still fixture before now members more setups_out cleanups_out long have =
    let has_mark = λ (long : ℕ) (number : ℕ). number < long in
    let each = λ (tests : List ℕ) (rest : List ℕ) (is : Bool) (out : rest ≡ cond is [] tests) (all : All (has_mark (length members.marks.items)) tests).
    subst (λ count. All (has_mark count) rest) (sym long) (subst (All (has_mark (length members.marks.items))) (sym out) (all_taken (has_mark (length members.marks.items)) is tests all)) in
    record {
      setups = λ asked. each (fixture_tests before.setups asked) (fixture_tests now.setups asked) (bytes_eq asked fixture) (setups_out asked) (have.setups asked);
      cleanups = λ asked. each (fixture_tests before.cleanups asked) (fixture_tests now.cleanups asked) (bytes_eq asked fixture) (cleanups_out asked) (have.cleanups asked);
    }

-- what equal patterns keep out
pub given_same : (any side other_any other_side : Option Regex) (fixture tests : List ℕ) → any ≡ other_any → side ≡ other_side → given (is_hit any fixture || is_hit side fixture) tests ≡ given (is_hit other_any fixture || is_hit other_side fixture) tests
given_same any side other_any other_side fixture tests same_any same_side =
    ap (λ pattern. given (is_hit pattern fixture || is_hit side fixture) tests) same_any
    ∙ ap (λ pattern. given (is_hit other_any fixture || is_hit pattern fixture) tests) same_side

joined : (member disabled up kept clean kept_clean : Bool) → ((member || ((not disabled && up) && not kept)) || ((not disabled && clean) && not kept_clean)) ≡ (member || ((not disabled && ((up && not kept) || (clean && not kept_clean))) || false))
joined true disabled up kept clean kept_clean = refl
joined false true up kept clean kept_clean = refl
joined false false up kept clean kept_clean = sym (or-false ((up && not kept) || (clean && not kept_clean)))

both_sides : (choice : Choice) (fixture : List ℕ) (member : Bool) (own : Option Props) → ((member || (names_fixture (λ p. p.setup) fixture own && not (keeps_setups choice fixture))) || (names_fixture (λ p. p.cleanup) fixture own && not (keeps_cleanups choice fixture))) ≡ (member || is_drawn choice (fixture ∷ []) own)
both_sides choice fixture member None = or-false (member || false)
both_sides choice fixture member (Some own) = joined member own.disabled (is_among fixture own.setup) (keeps_setups choice fixture) (is_among fixture own.cleanup) (keeps_cleanups choice fixture)

-- where the setups and then the cleanups of a fixture are taken out and
-- added, the tests that it draws in are in
pub drawn_one : (choice : Choice) (props : List Props) (fixture : List ℕ) (before now : Fixtures) (setups cleanups : List ℕ) (first second third : Members) → AreLeft choice props before first
    → ((asked : List ℕ) → fixture_tests now.setups asked ≡ cond (bytes_eq asked fixture) [] (fixture_tests before.setups asked)) → setups ≡ given (keeps_setups choice fixture) (fixture_tests before.setups fixture) → AddsTests setups first second
    → ((asked : List ℕ) → fixture_tests now.cleanups asked ≡ cond (bytes_eq asked fixture) [] (fixture_tests before.cleanups asked)) → cleanups ≡ given (keeps_cleanups choice fixture) (fixture_tests before.cleanups fixture) → AddsTests cleanups second third
    → AreLeft choice props now third × Draws choice props (fixture ∷ []) first third
drawn_one choice props fixture before now setups cleanups first second third left setups_out are_setups added_first cleanups_out are_cleanups added_second =
    let added = adds_same setups (given (keeps_setups choice fixture) (fixture_tests before.setups fixture)) first second are_setups added_first in
    let added_too = adds_same cleanups (given (keeps_cleanups choice fixture) (fixture_tests before.cleanups fixture)) second third are_cleanups added_second in
    let cleanups_on = left_on (λ own. own.cleanup) (keeps_cleanups choice) props before.cleanups first second added.extends.kept left.cleanups in
    let setups_on = left_taken (λ own. own.setup) (keeps_setups choice) props before.setups now.setups fixture first second setups_out added left.setups in (
      record {
        long = added_too.extends.long ∙ added.extends.long ∙ left.long;
        setups = left_on (λ own. own.setup) (keeps_setups choice) props now.setups second third added_too.extends.kept setups_on;
        cleanups = left_taken (λ own. own.cleanup) (keeps_cleanups choice) props before.cleanups now.cleanups fixture second third cleanups_out added_too cleanups_on;
      },
      record {
        extends = extends_on first second third added.extends added_too.extends;
        is = λ number.
            added_too.is number
            ∙ side_drawn (λ own. own.cleanup) (keeps_cleanups choice) props before.cleanups second fixture number cleanups_on
            ∙ ap (λ m. m || (names_fixture (λ own. own.cleanup) fixture (at_number props number) && not (keeps_cleanups choice fixture))) (added.is number ∙ side_drawn (λ own. own.setup) (keeps_setups choice) props before.setups first fixture number left.setups)
            ∙ both_sides choice fixture (is_drawn_in first number) (at_number props number);
      },
    )

drawn_by_none : (choice : Choice) (own : Option Props) → is_drawn choice [] own ≡ false
drawn_by_none choice None = refl
drawn_by_none choice (Some own) = refl

-- no fixture draws in nothing
pub drawn_none : (choice : Choice) (props : List Props) (members : Members) → Draws choice props [] members members
drawn_none choice props members = record {
  extends = record {
    long = refl;
    kept = λ number was. was;
    waits = λ number is_now was. absurd (false≢true (sym was ∙ is_now));
    waits_still = λ number was. was;
    waits_in = λ all number there. all number there;
    count = refl;
  };
  is = λ number. sym (ap (λ drawn. is_drawn_in members number || drawn) (drawn_by_none choice (at_number props number)) ∙ or-false (is_drawn_in members number));
}

-- a test that is not disabled requires its fixtures
pub requires_own : (own : Props) → own.disabled ≡ false → required_by (Some own) ≡ own.required
requires_own own enabled = ap (λ d. cond d [] own.required) enabled

drawn_by_more : (choice : Choice) (fixtures : List (List ℕ)) (at : ℕ) (fixture : List ℕ) (own : Option Props) → at < length fixtures → fixture ≡ get_or fixtures at fixture → (is_drawn choice (take at fixtures) own || is_drawn choice (fixture ∷ []) own) ≡ is_drawn choice (take (at + 1) fixtures) own
drawn_by_more choice fixtures at fixture None within is = refl
drawn_by_more choice fixtures at fixture (Some own) within is =
    ap (λ here. is_drawn choice (take at fixtures) (Some own) || here) (or-false (draws choice own fixture))
    ∙ ap (λ f. is_drawn choice (take at fixtures) (Some own) || draws choice own f) is
    ∙ sym (list_any_more (draws choice own) fixtures at fixture within)

-- what fixtures draw in, with one more fixture
pub drawn_more : (choice : Choice) (props : List Props) (fixtures : List (List ℕ)) (at : ℕ) (fixture : List ℕ) (first second third : Members) → at < length fixtures → fixture ≡ get_or fixtures at fixture → Draws choice props (take at fixtures) first second → Draws choice props (fixture ∷ []) second third → Draws choice props (take (at + 1) fixtures) first third
drawn_more choice props fixtures at fixture first second third within is one two = record {
  extends = extends_on first second third one.extends two.extends;
  is = λ number.
      two.is number
      ∙ ap (λ m. m || is_drawn choice (fixture ∷ []) (at_number props number)) (one.is number)
      ∙ or_assoc (is_drawn_in first number) (is_drawn choice (take at fixtures) (at_number props number)) (is_drawn choice (fixture ∷ []) (at_number props number))
      ∙ ap (λ drawn. is_drawn_in first number || drawn) (drawn_by_more choice fixtures at fixture (at_number props number) within is);
}

-- what fixtures draw in is what equal ones draw in
pub drawn_same : (choice : Choice) (props : List Props) (fixtures others : List (List ℕ)) (first second : Members) → fixtures ≡ others → Draws choice props fixtures first second → Draws choice props others first second
drawn_same choice props fixtures others first second same drawn = subst (λ fs. Draws choice props fs first second) same drawn
