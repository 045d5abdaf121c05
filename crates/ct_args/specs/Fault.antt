-- What is wrong with the options of a command line. Source: CMake manual, ctest(1), Options.
-- What is refused, and that an option with a value may be given once but for those of labels, is this
-- project's choice.
use Rattle.std.specs.Prelude.{ℕ, Bool, true, false, ◌&&◌, not, List, [], ◌∷◌, ◌++◌, Option, Some, None, option_map, option_to_list, if◌then◌else◌}
use Rattle.std.specs.Result.{result_err}
use Rattle.ct_args.specs.declared.option.CommandOption.{CommandOption}
use Rattle.ct_args.specs.declared.option.CommandOption.TheVariants.{TestsRegex, ExcludeRegex, LabelRegex, LabelExclude, FixtureExcludeAny, FixtureExcludeSetup, FixtureExcludeCleanup, TestsInformation, Union, Parallel, Timeout, Repeat, NoTests, StopOnFailure, ShowOnly, ShowOnlyAs, PrintLabels, RerunFailed, Verbosity}
use Rattle.ct_args.specs.declared.usage.UsageKind.{UsageKind}
use Rattle.ct_args.specs.declared.usage.UsageKind.TheVariants.{UnknownOption, NoValue, Twice}
use Rattle.ct_args.specs.declared.usage.UsageFault.{UsageFault}
use Rattle.ct_args.specs.declared.usage.UsageFault.TheVariants.{At}
use Rattle.ct_args.specs.Given.{Value, Given, options_in, is_given}
use Rattle.ct_args.specs.Values.{pattern_in, numbers_in, level_in, limit_in, repeat_in, is_error_in, list_form_in}

-- the option takes a value
abbrev pub takes_value : CommandOption → Bool
takes_value Union = false
takes_value StopOnFailure = false
takes_value ShowOnly = false
takes_value PrintLabels = false
takes_value RerunFailed = false
takes_value Verbosity = false
takes_value option = true

-- the option may be given several times: it has a pattern for labels, names the form of the list, or takes no
-- value
abbrev pub may_be_given_again : CommandOption → Bool
may_be_given_again LabelRegex = true
may_be_given_again LabelExclude = true
may_be_given_again ShowOnlyAs = true
may_be_given_again option = not (takes_value option)

-- why a text is refused as the value of the option, where it is; a configuration, a folder and a file may be
-- any text
abbrev pub why_refused : CommandOption → List ℕ → Option UsageKind
why_refused TestsRegex text = result_err (pattern_in text)
why_refused ExcludeRegex text = result_err (pattern_in text)
why_refused LabelRegex text = result_err (pattern_in text)
why_refused LabelExclude text = result_err (pattern_in text)
why_refused FixtureExcludeAny text = result_err (pattern_in text)
why_refused FixtureExcludeSetup text = result_err (pattern_in text)
why_refused FixtureExcludeCleanup text = result_err (pattern_in text)
why_refused TestsInformation text = result_err (numbers_in text)
why_refused Parallel text = result_err (level_in text)
why_refused Timeout text = result_err (limit_in text)
why_refused Repeat text = result_err (repeat_in text)
why_refused NoTests text = result_err (is_error_in text)
why_refused ShowOnlyAs text = result_err (list_form_in text)
why_refused option text = None

-- the fault of the value of an option that this word names; a missing value is a fault of this word, a bad
-- one of the word that holds it
abbrev pub fault_of_value : ℕ → CommandOption → Option Value → Option UsageFault
fault_of_value word option None = Some (At word NoValue)
fault_of_value word option (Some value) = option_map (At value.word) (why_refused option value.text)

-- the fault of an option behind these; the checks are, in order: given twice, no value, bad value
abbrev pub fault_of_option : List Given → ℕ → Option CommandOption → Option Value → Option UsageFault
fault_of_option before word None value = Some (At word UnknownOption)
fault_of_option before word (Some option) value =
    if not (may_be_given_again option) && is_given option before then Some (At word Twice)
    else (if takes_value option then fault_of_value word option value else None)

-- the fault of what is given behind these
abbrev pub repeat_fault : List Given → Given → Option UsageFault
repeat_fault before given = fault_of_option before given.word given.option given.value

-- the faults of options behind others, from the left
abbrev pub faults_behind : List Given → List Given → List UsageFault
faults_behind before [] = []
faults_behind before (given ∷ others) =
    option_to_list (repeat_fault before given) ++ faults_behind (before ++ given ∷ []) others

-- the faults of the words of a command line, from the left
abbrev pub faults_in : List (List ℕ) → List UsageFault
faults_in words = faults_behind [] (options_in words)
