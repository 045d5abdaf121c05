-- What the words of a command line ask for. Source: CMake manual, ctest(1), Options.
-- That a test may run 1500 seconds without --timeout is this project's choice.
use Rattle.std.specs.Prelude.{◌≤◌, ℕ, Bool, false, List, [], ◌∷◌, map, Option, None, unwrap_or, option_map, Result, Ok, Err, codes, if◌then◌else◌}
use Rattle.ct_regex.specs.Tree.{Tree}
use Rattle.ct_regex.specs.TreeOf.{regex_tree}
use Rattle.ct_props.specs.declared.wanted.Numbers.{Numbers}
use Rattle.ct_verdict.specs.declared.repeat.Mode.TheVariants.{Once}
use Rattle.ct_verdict.specs.declared.repeat.Repeat.{Repeat}
use Rattle.ct_args.specs.declared.option.CommandOption.TheVariants.{TestsRegex, ExcludeRegex, LabelRegex, LabelExclude, FixtureExcludeAny, FixtureExcludeSetup, FixtureExcludeCleanup, TestsInformation, Union, Parallel, BuildConfig, TestDir, ResourceSpecFile, Timeout, Repeat as RepeatOption, NoTests, StopOnFailure, ShowOnly, ShowOnlyAs, PrintLabels, RerunFailed}
use Rattle.ct_args.specs.declared.usage.UsageFault.{UsageFault}
use Rattle.ct_args.specs.declared.invocation.Task.{Task}
use Rattle.ct_args.specs.declared.invocation.Task.TheVariants.{Run, ListTests, ListLabels, ListJson}
use Rattle.ct_args.specs.declared.invocation.Invocation.{Invocation}
use Rattle.ct_args.specs.Given.{Given, options_in, is_given, option_value, option_values}
use Rattle.ct_args.specs.declared.settings.TheConstants.{USUAL_LIMIT}
use Rattle.ct_args.specs.Values.{greatest_level, greatest_times, text_in, pattern_in, numbers_in, level_in, limit_in, repeat_in, is_error_in}
use Rattle.ct_args.specs.Fault.{faults_in}

-- an invocation, with the trees of its patterns in place of the patterns
pub record InvocationValue : Type 0 where
  pub task : Task
  pub dir : List ℕ
  pub name : Option Tree
  pub not_name : Option Tree
  pub labels : List Tree
  pub not_labels : List Tree
  pub numbers : Option Numbers
  pub union : Bool
  pub keep_any : Option Tree
  pub keep_setup : Option Tree
  pub keep_cleanup : Option Tree
  pub only : Option (List (List ℕ))
  pub level : ℕ
  pub repeat : Repeat
  pub stop_on_failure : Bool
  pub config : List ℕ
  pub timeout : ℕ
  pub spec_file : Option (List ℕ)
  pub empty_is_error : Bool
  pub rerun : Bool

-- what the program is asked to do: --print-labels is stronger than --show-only=json-v1, which is stronger
-- than -N
abbrev pub task_by : Bool → Bool → Bool → Task
task_by labels json tests =
    if labels then ListLabels else (if json then ListJson else (if tests then ListTests else Run))

-- each test is tried once
abbrev pub once : Repeat
once = record { mode = Once; times = 1 }

-- the folder without --test-dir
abbrev pub here : List ℕ
here = codes "."

-- how long a test may run without --timeout, in microseconds
abbrev pub usual_limit : ℕ
usual_limit = USUAL_LIMIT

-- what options that have no fault ask for; none of them names the tests that alone are chosen
abbrev pub invocation_of : List Given → InvocationValue
invocation_of given = record {
  task = task_by (is_given PrintLabels given) (is_given ShowOnlyAs given) (is_given ShowOnly given);
  dir = unwrap_or (option_value text_in TestDir given) here;
  name = option_value pattern_in TestsRegex given;
  not_name = option_value pattern_in ExcludeRegex given;
  labels = option_values pattern_in LabelRegex given;
  not_labels = option_values pattern_in LabelExclude given;
  numbers = option_value numbers_in TestsInformation given;
  union = is_given Union given;
  keep_any = option_value pattern_in FixtureExcludeAny given;
  keep_setup = option_value pattern_in FixtureExcludeSetup given;
  keep_cleanup = option_value pattern_in FixtureExcludeCleanup given;
  only = None;
  level = unwrap_or (option_value level_in Parallel given) 1;
  repeat = unwrap_or (option_value repeat_in RepeatOption given) once;
  stop_on_failure = is_given StopOnFailure given;
  config = unwrap_or (option_value text_in BuildConfig given) [];
  timeout = unwrap_or (option_value limit_in Timeout given) usual_limit;
  spec_file = option_value text_in ResourceSpecFile given;
  empty_is_error = unwrap_or (option_value is_error_in NoTests given) false;
  rerun = is_given RerunFailed given;
}

-- the invocation, or the first of these faults
abbrev pub unless_refused : List UsageFault → InvocationValue → Result InvocationValue UsageFault
unless_refused [] invocation = Ok invocation
unless_refused (fault ∷ others) invocation = Err fault

-- what the words of a command line ask for, or the first that is wrong with them
abbrev pub invocation_in : List (List ℕ) → Result InvocationValue UsageFault
invocation_in words = unless_refused (faults_in words) (invocation_of (options_in words))

-- an invocation as it is seen
abbrev pub invocation_seen : Invocation → InvocationValue
invocation_seen made = record {
  task = made.task;
  dir = made.wanted.dir;
  name = option_map regex_tree made.wanted.choice.name;
  not_name = option_map regex_tree made.wanted.choice.not_name;
  labels = map regex_tree made.wanted.choice.labels;
  not_labels = map regex_tree made.wanted.choice.not_labels;
  numbers = made.wanted.choice.numbers;
  union = made.wanted.choice.union;
  keep_any = option_map regex_tree made.wanted.choice.keep_any;
  keep_setup = option_map regex_tree made.wanted.choice.keep_setup;
  keep_cleanup = option_map regex_tree made.wanted.choice.keep_cleanup;
  only = made.wanted.choice.only;
  level = made.wanted.level;
  repeat = made.wanted.repeat;
  stop_on_failure = made.wanted.stop_on_failure;
  config = made.config;
  timeout = made.timeout;
  spec_file = made.spec_file;
  empty_is_error = made.empty_is_error;
  rerun = made.rerun;
}

-- what holds of all that words ask for: the level is from 1 to the greatest, and a test is tried at most so
-- many times as is asked for, from 1 to the greatest number
pub record IsBounded (made : Invocation) : Type 0 where
  pub some_level : 1 ≤ made.wanted.level
  pub most_level : made.wanted.level ≤ greatest_level
  pub some_times : 1 ≤ made.wanted.repeat.times
  pub most_times : made.wanted.repeat.times ≤ greatest_times
