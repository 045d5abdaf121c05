-- What the reader keeps of the options in front of a word. proofs/ shows that it gives what the options
-- ask for, or the first fault. This project's own.
use Rattle.std.specs.Prelude.{ℕ, Bool, false, ◌||◌, List, [], ◌∷◌, ◌++◌, map, Option, Some, None, is_some, unwrap_or, option_map, option_to_list, Result, Ok, Err, if◌then◌else◌}
use Rattle.std.specs.Result.{result_ok}
use Rattle.ct_regex.specs.Tree.{Tree}
use Rattle.ct_regex.specs.TreeOf.{regex_tree}
use Rattle.ct_props.specs.declared.wanted.Numbers.{Numbers}
use Rattle.ct_verdict.specs.declared.repeat.Repeat.{Repeat}
use Rattle.ct_args.specs.declared.option.CommandOption.{CommandOption}
use Rattle.ct_args.specs.declared.option.CommandOption.TheVariants.{TestsRegex, ExcludeRegex, LabelRegex, LabelExclude, FixtureExcludeAny, FixtureExcludeSetup, FixtureExcludeCleanup, TestsInformation, Union, Parallel, BuildConfig, TestDir, ResourceSpecFile, Timeout, Repeat as RepeatOption, NoTests, StopOnFailure, ShowOnly, ShowOnlyAs, PrintLabels, RerunFailed}
use Rattle.ct_args.specs.declared.usage.UsageKind.{UsageKind}
use Rattle.ct_args.specs.declared.usage.UsageKind.TheVariants.{UnknownOption, NoValue, Twice}
use Rattle.ct_args.specs.declared.usage.UsageFault.{UsageFault}
use Rattle.ct_args.specs.declared.usage.UsageFault.TheVariants.{At}
use Rattle.ct_args.specs.declared.settings.Settings.{Settings}
use Rattle.ct_args.specs.Given.{Value, Given, is_same}
use Rattle.ct_args.specs.Values.{text_in, pattern_in, numbers_in, level_in, limit_in, repeat_in, is_error_in}
use Rattle.ct_args.specs.Fault.{why_refused, takes_value}
use Rattle.ct_args.specs.Invocation.{InvocationValue, task_by, once, here, usual_limit}

-- a slot for each option that may be given once, a list for each of those of labels, and a mark for each
-- other one
pub record Slots : Type 0 where
  pub name : Option Tree
  pub not_name : Option Tree
  pub labels : List Tree
  pub not_labels : List Tree
  pub numbers : Option Numbers
  pub union : Bool
  pub keep_any : Option Tree
  pub keep_setup : Option Tree
  pub keep_cleanup : Option Tree
  pub level : Option ℕ
  pub repeat : Option Repeat
  pub dir : Option (List ℕ)
  pub config : Option (List ℕ)
  pub spec_file : Option (List ℕ)
  pub timeout : Option ℕ
  pub empty_is_error : Option Bool
  pub stop_on_failure : Bool
  pub show_only : Bool
  pub show_json : Bool
  pub print_labels : Bool
  pub rerun : Bool

-- nothing was given
abbrev pub no_slots : Slots
no_slots = record {
  name = None;
  not_name = None;
  labels = [];
  not_labels = [];
  numbers = None;
  union = false;
  keep_any = None;
  keep_setup = None;
  keep_cleanup = None;
  level = None;
  repeat = None;
  dir = None;
  config = None;
  spec_file = None;
  timeout = None;
  empty_is_error = None;
  stop_on_failure = false;
  show_only = false;
  show_json = false;
  print_labels = false;
  rerun = false;
}

-- the slot of an option is full; an option that may be given several times has none
abbrev pub is_slot_full : Slots → CommandOption → Bool
is_slot_full slots TestsRegex = is_some slots.name
is_slot_full slots ExcludeRegex = is_some slots.not_name
is_slot_full slots FixtureExcludeAny = is_some slots.keep_any
is_slot_full slots FixtureExcludeSetup = is_some slots.keep_setup
is_slot_full slots FixtureExcludeCleanup = is_some slots.keep_cleanup
is_slot_full slots TestsInformation = is_some slots.numbers
is_slot_full slots Parallel = is_some slots.level
is_slot_full slots BuildConfig = is_some slots.config
is_slot_full slots TestDir = is_some slots.dir
is_slot_full slots ResourceSpecFile = is_some slots.spec_file
is_slot_full slots Timeout = is_some slots.timeout
is_slot_full slots RepeatOption = is_some slots.repeat
is_slot_full slots NoTests = is_some slots.empty_is_error
is_slot_full slots option = false

-- the slot of an option behind a text that is given as the value of this one
abbrev pub filled : {X : Type 0}
    → (List ℕ → Result X UsageKind) → CommandOption → CommandOption → List ℕ → Option X → Option X
filled rule own option text slot = if is_same own option then result_ok (rule text) else slot

-- the list of an option behind a text that is given as a value of this one
abbrev pub lengthened : {X : Type 0}
    → (List ℕ → Result X UsageKind) → CommandOption → CommandOption → List ℕ → List X → List X
lengthened rule own option text list =
    if is_same own option then list ++ option_to_list (result_ok (rule text)) else list

-- the slots behind a text that is given as the value of an option
abbrev pub with_text : CommandOption → List ℕ → Slots → Slots
with_text option text slots = record {
  name = filled pattern_in TestsRegex option text slots.name;
  not_name = filled pattern_in ExcludeRegex option text slots.not_name;
  labels = lengthened pattern_in LabelRegex option text slots.labels;
  not_labels = lengthened pattern_in LabelExclude option text slots.not_labels;
  numbers = filled numbers_in TestsInformation option text slots.numbers;
  union = slots.union;
  keep_any = filled pattern_in FixtureExcludeAny option text slots.keep_any;
  keep_setup = filled pattern_in FixtureExcludeSetup option text slots.keep_setup;
  keep_cleanup = filled pattern_in FixtureExcludeCleanup option text slots.keep_cleanup;
  level = filled level_in Parallel option text slots.level;
  repeat = filled repeat_in RepeatOption option text slots.repeat;
  dir = filled text_in TestDir option text slots.dir;
  config = filled text_in BuildConfig option text slots.config;
  spec_file = filled text_in ResourceSpecFile option text slots.spec_file;
  timeout = filled limit_in Timeout option text slots.timeout;
  empty_is_error = filled is_error_in NoTests option text slots.empty_is_error;
  stop_on_failure = slots.stop_on_failure;
  show_only = slots.show_only;
  show_json = is_same ShowOnlyAs option || slots.show_json;
  print_labels = slots.print_labels;
  rerun = slots.rerun;
}

-- the slots behind an option that takes no value
abbrev pub with_flag : CommandOption → Slots → Slots
with_flag option slots = record slots {
  union = is_same Union option || slots.union;
  stop_on_failure = is_same StopOnFailure option || slots.stop_on_failure;
  show_only = is_same ShowOnly option || slots.show_only;
  print_labels = is_same PrintLabels option || slots.print_labels;
  rerun = is_same RerunFailed option || slots.rerun;
}

-- the slots behind a text that is given as the value of an option, unless it is refused
abbrev pub unless_bad : Option UsageKind → ℕ → Slots → Result Slots UsageFault
unless_bad None holder slots = Ok slots
unless_bad (Some kind) holder slots = Err (At holder kind)

-- the slots behind an option that takes a value, or its fault
abbrev pub after_value : Slots → ℕ → CommandOption → Option Value → Result Slots UsageFault
after_value slots word option None = Err (At word NoValue)
after_value slots word option (Some value) =
    unless_bad (why_refused option value.text) value.word (with_text option value.text slots)

-- the slots behind an option, or its fault
abbrev pub after_option : Slots → ℕ → Option CommandOption → Option Value → Result Slots UsageFault
after_option slots word None value = Err (At word UnknownOption)
after_option slots word (Some option) value =
    if is_slot_full slots option then Err (At word Twice)
    else (if takes_value option then after_value slots word option value else Ok (with_flag option slots))

-- the slots behind what is given, or its fault
abbrev pub after_given : Slots → Given → Result Slots UsageFault
after_given slots given = after_option slots given.word given.option given.value

-- goes on with the slots, or passes the fault on
abbrev pub then_slots : {X : Type 0}
    → Result Slots UsageFault → (Slots → Result X UsageFault) → Result X UsageFault
then_slots (Ok slots) next = next slots
then_slots (Err fault) next = Err fault

-- the slots behind all of these, or the first fault
abbrev pub slots_behind : Slots → List Given → Result Slots UsageFault
slots_behind slots [] = Ok slots
slots_behind slots (given ∷ others) = then_slots (after_given slots given) (λ next. slots_behind next others)

-- the invocation that the slots make
abbrev pub made_of : Slots → InvocationValue
made_of slots = record {
  task = task_by slots.print_labels slots.show_json slots.show_only;
  dir = unwrap_or slots.dir here;
  name = slots.name;
  not_name = slots.not_name;
  labels = slots.labels;
  not_labels = slots.not_labels;
  numbers = slots.numbers;
  union = slots.union;
  keep_any = slots.keep_any;
  keep_setup = slots.keep_setup;
  keep_cleanup = slots.keep_cleanup;
  only = None;
  level = unwrap_or slots.level 1;
  repeat = unwrap_or slots.repeat once;
  stop_on_failure = slots.stop_on_failure;
  config = unwrap_or slots.config [];
  timeout = unwrap_or slots.timeout usual_limit;
  spec_file = slots.spec_file;
  empty_is_error = unwrap_or slots.empty_is_error false;
  rerun = slots.rerun;
}

-- the settings as slots, with the trees of patterns in place of the patterns
abbrev pub slots_of_settings : Settings → Slots
slots_of_settings settings = record {
  name = option_map regex_tree settings.choice.name;
  not_name = option_map regex_tree settings.choice.not_name;
  labels = map regex_tree settings.choice.labels;
  not_labels = map regex_tree settings.choice.not_labels;
  numbers = settings.choice.numbers;
  union = settings.choice.union;
  keep_any = option_map regex_tree settings.choice.keep_any;
  keep_setup = option_map regex_tree settings.choice.keep_setup;
  keep_cleanup = option_map regex_tree settings.choice.keep_cleanup;
  level = settings.level;
  repeat = settings.repeat;
  dir = settings.dir;
  config = settings.config;
  spec_file = settings.spec_file;
  timeout = settings.timeout;
  empty_is_error = settings.empty_is_error;
  stop_on_failure = settings.stop_on_failure;
  show_only = settings.show_only;
  show_json = settings.show_json;
  print_labels = settings.print_labels;
  rerun = settings.rerun;
}
