-- Which tests come before a test. Source: CMake manual, cmake-properties(7), DEPENDS, FIXTURES_SETUP,
-- FIXTURES_REQUIRED, FIXTURES_CLEANUP. That a cleanup waits for the setups too is this project's choice.
use Rattle.std.specs.Prelude.{ℕ, Bool, false, not, ◌&&◌, ◌||◌, List, filter, Option, Some}
use Rattle.std.specs.List.{list_any}
use Rattle.ct_base.specs.declared.defs.TestDef.{TestDef}
use Rattle.ct_props.specs.Numbered.{at_number}
use Rattle.ct_props.specs.declared.props.Props.{Props}
use Rattle.ct_base.specs.Names.{is_among, shares_name}

-- the later test depends on the name of the earlier one
abbrev pub depends_on : TestDef → Props → Bool
depends_on earlier later = is_among earlier.name later.depends

-- the later test requires a fixture that the earlier one sets up
abbrev pub is_set_up_by : Props → Props → Bool
is_set_up_by earlier later = shares_name later.required earlier.setup

-- the later test cleans a fixture that the earlier one requires or sets up
abbrev pub cleans_behind : Props → Props → Bool
cleans_behind earlier later =
    shares_name later.cleanup earlier.required || shares_name later.cleanup earlier.setup

-- neither of two tests is disabled
abbrev pub are_enabled : Props → Props → Bool
are_enabled earlier later = not earlier.disabled && not later.disabled

-- one test comes before another: neither is disabled, and the later one depends on the earlier one's name,
-- requires a fixture that it sets up, or cleans behind it
abbrev pub comes_before : Option TestDef → Option Props → Option Props → Bool
comes_before (Some def) (Some earlier) (Some later) =
    are_enabled earlier later
    && (depends_on def later || is_set_up_by earlier later || cleans_behind earlier later)
comes_before _ _ _ = false

-- a test that is not disabled sets up a fixture that another one requires
abbrev pub sets_up : Option Props → Option Props → Bool
sets_up (Some earlier) (Some later) = are_enabled earlier later && is_set_up_by earlier later
sets_up _ _ = false

-- the members that come before a test, in order
abbrev pub before_of : List TestDef → List Props → List ℕ → ℕ → List ℕ
before_of defs props members number =
    filter (λ j. comes_before (at_number defs j) (at_number props j) (at_number props number)) members

-- the members that set up a fixture that a test requires, in order
abbrev pub setups_of : List Props → List ℕ → ℕ → List ℕ
setups_of props members number = filter (λ j. sets_up (at_number props j) (at_number props number)) members
