-- What a plan says of a test: what its properties ask for, and what keeps it from running. Source: CMake
-- manual, cmake-properties(7), DISABLED, LABELS, PASS_REGULAR_EXPRESSION, PROCESSORS, RESOURCE_GROUPS,
-- RESOURCE_LOCK, RUN_SERIAL, SKIP_RETURN_CODE, WILL_FAIL; add_test. That a test takes the level at most, and
-- that locks are shared, is this project's choice.
use Rattle.std.specs.Prelude.{◌≡◌, ℕ, ⊤, min, Bool, false, not, bytes_eq, codes, List, [], ◌∷◌, filter, length, Option, Some, None, option_map, ◌==◌, if◌then◌else◌}
use Rattle.ct_base.specs.declared.defs.Need.{Need}
use Rattle.ct_base.specs.declared.defs.Resource.{Resource}
use Rattle.ct_base.specs.declared.defs.TestDef.{TestDef}
use Rattle.ct_alloc.specs.Placement.{SomeFits}
use Rattle.ct_props.specs.declared.props.Props.{Props}
use Rattle.ct_props.specs.Numbered.{at_number}
use Rattle.ct_env.specs.Modification.{first_bad}
use Rattle.ct_verdict.specs.declared.rules.Rules.{Rules}
use Rattle.ct_verdict.specs.declared.verdict.Cause.{Cause}
use Rattle.ct_verdict.specs.declared.verdict.Cause.TheVariants.{NotAvailable, BadOperation, Insufficient}
use Rattle.ct_history.specs.declared.plan.PlanTest.{PlanTest}
use Rattle.ct_plan.specs.Source.{Source, members_before, setup_members}
use Rattle.ct_base.specs.Names.{is_among}
use Rattle.ct_groups.specs.GroupsIn.{needs_of_groups}

-- how an exit of the test is judged
abbrev pub rules_of : Props → Rules
rules_of props = record {
  pass_wanted = not (length props.pass == 0);
  skip_code = props.skip_code;
  will_fail = props.will_fail;
}

-- the command is the word that stands for a program that is not there
abbrev pub is_not_available : List (List ℕ) → Bool
is_not_available [] = false
is_not_available (word ∷ []) = bytes_eq word (codes "NOT_AVAILABLE")
is_not_available (word ∷ other ∷ others) = false

-- why the test can't run because of its own command or properties: its program is not there, or an entry of
-- its ENVIRONMENT_MODIFICATION names no operation
abbrev pub own_cause : TestDef → Props → Option Cause
own_cause def props =
    if is_not_available def.command
    then Some NotAvailable
    else option_map BadOperation (first_bad props.modification)

-- the needs fit on the resources while nothing is used; where no resources are given, they always do
abbrev pub ArePlaceable : Option (List Resource) → List Need → Type 0
ArePlaceable None needs = ⊤
ArePlaceable (Some resources) needs = SomeFits resources needs (λ place. 0)

-- the cause that keeps a test from running: its own one; else Insufficient,
-- where its needs do not fit; else none
abbrev pub IsFixedBy : Option Cause → Type 0 → Option Cause → Type 0
IsFixedBy (Some own) Fits cause = cause ≡ Some own
IsFixedBy None Fits None = Fits
IsFixedBy None Fits (Some Insufficient) = Fits → ⊥
IsFixedBy None Fits (Some _) = ⊥

-- the cause that keeps the test from running: its own one; else Insufficient,
-- where its needs fit nowhere; else none
abbrev pub IsFixed : Option (List Resource) → TestDef → Props → Option Cause → Type 0
IsFixed resources def props cause =
    IsFixedBy (own_cause def props) (ArePlaceable resources (needs_of_groups props.groups)) cause

-- the names without those of the locks
abbrev pub without : List (List ℕ) → List (List ℕ) → List (List ℕ)
without locks names = filter (λ name. not (is_among name locks)) names

-- the locks that a test shares: those that it names as shared, without those that it holds alone
abbrev pub shared_by : Props → List (List ℕ)
shared_by props = without props.locks props.shared

-- the test of the plan with this number and rank, and with the cause that keeps it from running
abbrev pub planned_test : Source → ℕ → TestDef → Props → ℕ → Option Cause → PlanTest
planned_test s number def props rank fixed = record {
  number = number;
  name = def.name;
  disabled = props.disabled;
  processors = min props.processors s.wanted.level;
  locks = props.locks;
  shared = shared_by props;
  serial = props.serial;
  rules = rules_of props;
  needs = needs_of_groups props.groups;
  before = members_before s number;
  setups = setup_members s number;
  rank = rank;
  fixed = fixed;
  labels = props.labels;
}

-- the test is what a plan says of the test with this number, whatever its rank
pub record IsPlannedTest (s : Source) (number : ℕ) (test : PlanTest) : Type 0 where
  pub def : TestDef
  pub props : Props
  pub def_is : at_number s.defs number ≡ Some def
  pub props_are : at_number s.props number ≡ Some props
  pub fixed : IsFixed s.resources def props test.fixed
  pub is : test ≡ planned_test s number def props test.rank test.fixed

-- these tests are what a plan says of these numbers, one for each, in order
abbrev pub ArePlannedTests : Source → List ℕ → List PlanTest → Type 0
ArePlannedTests s [] [] = ⊤
ArePlannedTests s [] (test ∷ tests) = ⊥
ArePlannedTests s (number ∷ numbers) [] = ⊥
ArePlannedTests s (number ∷ numbers) (test ∷ tests) =
    IsPlannedTest s number test × ArePlannedTests s numbers tests
