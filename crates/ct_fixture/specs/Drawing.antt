-- Which tests the fixtures draw in. Source: CMake manual, cmake-properties(7), FIXTURES_CLEANUP,
-- FIXTURES_REQUIRED, FIXTURES_SETUP; ctest(1), -FA, -FC, -FS.
use Rattle.std.specs.Prelude.{ℕ, zero, suc, Bool, false, not, ◌&&◌, ◌||◌, List, [], length, filter, flat_map, Option, Some, None, if◌then◌else◌}
use Rattle.std.specs.List.{list_any, range_with_len}
use Rattle.ct_base.specs.Numbers.{is_in}
use Rattle.ct_regex.specs.declared.pattern.Regex.{Regex}
use Rattle.ct_regex.specs.Ends.{hits}
use Rattle.ct_regex.specs.TreeOf.{regex_tree}
use Rattle.ct_props.specs.Numbered.{at_number}
use Rattle.ct_props.specs.declared.props.Props.{Props}
use Rattle.ct_props.specs.declared.wanted.Choice.{Choice}
use Rattle.ct_base.specs.Names.{is_among}

-- a pattern was given, and hits the fixture
abbrev pub is_hit : Option Regex → List ℕ → Bool
is_hit None fixture = false
is_hit (Some pattern) fixture = hits (regex_tree pattern) fixture

-- -FA or -FS hits the fixture, so that its setups are kept out
abbrev pub keeps_setups : Choice → List ℕ → Bool
keeps_setups choice fixture = is_hit choice.keep_any fixture || is_hit choice.keep_setup fixture

-- -FA or -FC hits the fixture, so that its cleanups are kept out
abbrev pub keeps_cleanups : Choice → List ℕ → Bool
keeps_cleanups choice fixture = is_hit choice.keep_any fixture || is_hit choice.keep_cleanup fixture

-- the test sets the fixture up, and its setups are not kept out
abbrev pub draws_in_setup : Choice → List ℕ → Props → Bool
draws_in_setup choice fixture own = is_among fixture own.setup && not (keeps_setups choice fixture)

-- the test cleans the fixture, and its cleanups are not kept out
abbrev pub cleans : Choice → List ℕ → Props → Bool
cleans choice fixture own = is_among fixture own.cleanup && not (keeps_cleanups choice fixture)

-- a required fixture draws the test in: the test is not disabled, and sets the fixture up or cleans it
abbrev pub draws : Choice → Props → List ℕ → Bool
draws choice own fixture =
    not own.disabled && (draws_in_setup choice fixture own || cleans choice fixture own)

-- the fixtures that a test requires; a disabled test requires none
abbrev pub required_by : Option Props → List (List ℕ)
required_by None = []
required_by (Some own) = if own.disabled then [] else own.required

-- one of these fixtures draws the test in
abbrev pub is_drawn : Choice → List (List ℕ) → Option Props → Bool
is_drawn choice fixtures None = false
is_drawn choice fixtures (Some own) = list_any (draws choice own) fixtures

-- the fixtures that these tests require
abbrev pub fixtures_required : List Props → List ℕ → List (List ℕ)
fixtures_required props tests = flat_map (λ number. required_by (at_number props number)) tests

-- one round more: the tests that are in, and those that the fixtures required by them draw in
abbrev pub next_round : Choice → List Props → List ℕ → List ℕ
next_round choice props tests =
    filter (λ number.
    is_in tests number
    || is_drawn choice (fixtures_required props tests) (at_number props number)) (range_with_len 1
    (length props))

-- the tests that are in after this many rounds
abbrev pub after_rounds : Choice → List Props → List ℕ → ℕ → List ℕ
after_rounds choice props chosen zero = chosen
after_rounds choice props chosen (suc rounds) =
    next_round choice props (after_rounds choice props chosen rounds)

-- the members of a run, which ascend: the tests that are in after as many rounds as there are tests
abbrev pub members_of : Choice → List Props → List ℕ → List ℕ
members_of choice props chosen = after_rounds choice props chosen (length props)
