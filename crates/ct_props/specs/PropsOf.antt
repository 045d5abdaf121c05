-- The properties of a test: each field by the rule of its key.
-- Source: CMake manual, cmake-properties(7), Properties on Tests.
use Rattle.std.specs.Prelude.{◌≡◌, ℕ, List, ◌++◌, map, Ok, codes}
use Rattle.ct_base.specs.Names.{each_once}
use Rattle.ct_base.specs.Entries.{entries_of}
use Rattle.ct_base.specs.Path.{joined}
use Rattle.ct_base.specs.declared.defs.Pair.{Pair}
use Rattle.ct_base.specs.declared.defs.TestDef.{TestDef}
use Rattle.ct_regex.specs.TreeOf.{regex_tree}
use Rattle.ct_props.specs.declared.checked.Checked.{Checked}
use Rattle.ct_props.specs.declared.props.Props.{Props}
use Rattle.ct_props.specs.declared.unchecked.FixtureNames.{FixtureNames}
use Rattle.ct_props.specs.declared.unchecked.Surroundings.{Surroundings}
use Rattle.ct_props.specs.declared.unchecked.Unchecked.{Unchecked}
use Rattle.ct_props.specs.declared.unchecked.DependsAndLocks.{DependsAndLocks}
use Rattle.ct_props.specs.Values.{value_of_key, text_of_key, is_true_text, processors_in, seconds_in, skip_code_in, patterns_in, resource_groups_in, working_dir_in}

-- the fields whose keys can be refused
pub record HasChecked (props : List Pair) (checked : Checked) : Type 0 where
  pub processors : processors_in (value_of_key props (codes "PROCESSORS")) ≡ Ok checked.processors
  pub fail :
      patterns_in (text_of_key props (codes "FAIL_REGULAR_EXPRESSION")) ≡ Ok (map regex_tree checked.fail)
  pub pass :
      patterns_in (text_of_key props (codes "PASS_REGULAR_EXPRESSION")) ≡ Ok (map regex_tree checked.pass)
  pub skip :
      patterns_in (text_of_key props (codes "SKIP_REGULAR_EXPRESSION")) ≡ Ok (map regex_tree checked.skip)
  pub skip_code : skip_code_in (value_of_key props (codes "SKIP_RETURN_CODE")) ≡ Ok checked.skip_code
  pub timeout : seconds_in (value_of_key props (codes "TIMEOUT")) ≡ Ok checked.timeout
  pub cost : seconds_in (value_of_key props (codes "COST")) ≡ Ok checked.cost
  pub groups : resource_groups_in (text_of_key props (codes "RESOURCE_GROUPS")) ≡ Ok checked.groups

-- the folder in which a test runs
abbrev pub working_dir_of : TestDef → List ℕ
working_dir_of def = working_dir_in def.dir (text_of_key def.props (codes "WORKING_DIRECTORY"))

-- the files that a test needs, each below the folder in which it runs
abbrev pub required_files_of : TestDef → List (List ℕ)
required_files_of def =
    map (joined (working_dir_of def)) (entries_of (text_of_key def.props (codes "REQUIRED_FILES")))

-- the labels of a test, and behind them those of its folder, each once
abbrev pub test_labels : TestDef → List (List ℕ)
test_labels def = each_once (entries_of (text_of_key def.props (codes "LABELS")) ++ def.dir_labels)

-- the fixtures that a test sets up, requires and cleans up
pub record HasFixtureNames (def : TestDef) (fixtures : FixtureNames) : Type 0 where
  pub setup : fixtures.setup ≡ entries_of (text_of_key def.props (codes "FIXTURES_SETUP"))
  pub required : fixtures.required ≡ entries_of (text_of_key def.props (codes "FIXTURES_REQUIRED"))
  pub cleanup : fixtures.cleanup ≡ entries_of (text_of_key def.props (codes "FIXTURES_CLEANUP"))

-- what a test waits for before it starts
pub record HasDependsAndLocks (def : TestDef) (waits : DependsAndLocks) : Type 0 where
  pub depends : waits.depends ≡ entries_of (text_of_key def.props (codes "DEPENDS"))
  pub locks : waits.locks ≡ entries_of (text_of_key def.props (codes "RESOURCE_LOCK"))
  pub shared : waits.shared ≡ entries_of (text_of_key def.props (codes "RESOURCE_LOCK_SHARED"))

-- what the program of a test starts in
pub record HasSurroundings (def : TestDef) (surroundings : Surroundings) : Type 0 where
  pub environment : surroundings.environment ≡ entries_of (text_of_key def.props (codes "ENVIRONMENT"))
  pub modification :
      surroundings.modification ≡ entries_of (text_of_key def.props (codes "ENVIRONMENT_MODIFICATION"))
  pub required_files : surroundings.required_files ≡ required_files_of def
  pub working_dir : surroundings.working_dir ≡ working_dir_of def

-- the fields whose keys take any value, where reading them takes memory
pub record HasUnchecked (def : TestDef) (unchecked : Unchecked) : Type 0 where
  pub fixtures : HasFixtureNames def unchecked.fixtures
  pub waits : HasDependsAndLocks def unchecked.waits
  pub labels : unchecked.labels ≡ test_labels def
  pub surroundings : HasSurroundings def unchecked.surroundings

-- the properties of a test: each field by the rule of its key; no other key has an effect
pub record HasProps (def : TestDef) (props : Props) : Type 0 where
  pub depends : props.depends ≡ entries_of (text_of_key def.props (codes "DEPENDS"))
  pub setup : props.setup ≡ entries_of (text_of_key def.props (codes "FIXTURES_SETUP"))
  pub required : props.required ≡ entries_of (text_of_key def.props (codes "FIXTURES_REQUIRED"))
  pub cleanup : props.cleanup ≡ entries_of (text_of_key def.props (codes "FIXTURES_CLEANUP"))
  pub disabled : props.disabled ≡ is_true_text (text_of_key def.props (codes "DISABLED"))
  pub processors : processors_in (value_of_key def.props (codes "PROCESSORS")) ≡ Ok props.processors
  pub locks : props.locks ≡ entries_of (text_of_key def.props (codes "RESOURCE_LOCK"))
  pub shared : props.shared ≡ entries_of (text_of_key def.props (codes "RESOURCE_LOCK_SHARED"))
  pub serial : props.serial ≡ is_true_text (text_of_key def.props (codes "RUN_SERIAL"))
  pub fail :
      patterns_in (text_of_key def.props (codes "FAIL_REGULAR_EXPRESSION")) ≡ Ok (map regex_tree props.fail)
  pub pass :
      patterns_in (text_of_key def.props (codes "PASS_REGULAR_EXPRESSION")) ≡ Ok (map regex_tree props.pass)
  pub skip :
      patterns_in (text_of_key def.props (codes "SKIP_REGULAR_EXPRESSION")) ≡ Ok (map regex_tree props.skip)
  pub skip_code : skip_code_in (value_of_key def.props (codes "SKIP_RETURN_CODE")) ≡ Ok props.skip_code
  pub will_fail : props.will_fail ≡ is_true_text (text_of_key def.props (codes "WILL_FAIL"))
  pub timeout : seconds_in (value_of_key def.props (codes "TIMEOUT")) ≡ Ok props.timeout
  pub cost : seconds_in (value_of_key def.props (codes "COST")) ≡ Ok props.cost
  pub environment : props.environment ≡ entries_of (text_of_key def.props (codes "ENVIRONMENT"))
  pub modification :
      props.modification ≡ entries_of (text_of_key def.props (codes "ENVIRONMENT_MODIFICATION"))
  pub required_files : props.required_files ≡ required_files_of def
  pub labels : props.labels ≡ test_labels def
  pub working_dir : props.working_dir ≡ working_dir_of def
  pub groups : resource_groups_in (text_of_key def.props (codes "RESOURCE_GROUPS")) ≡ Ok props.groups
