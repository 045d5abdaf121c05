-- Which words are options, and where the value of each stands. Source: CMake manual, ctest(1), Options.
use Rattle.std.specs.Prelude.{ℕ, ◌+◌, List, [], ◌∷◌, length, drop, nat_eq, Option, Some, None, codes, ◌==◌, if◌then◌else◌}
use Rattle.std.specs.Borrow.{Bor}
use Rattle.std.specs.List.{starts_with}
use Rattle.std.specs.Option.{option_map, option_or}
use Rattle.ct_base.specs.Bytes.{equals_sign}
use Rattle.ct_base.specs.Seconds.{is_numeral}
use Rattle.ct_args.specs.declared.option.CommandOption.{CommandOption}
use Rattle.ct_args.specs.declared.option.CommandOption.TheVariants.{TestsRegex, ExcludeRegex, LabelRegex, LabelExclude, FixtureExcludeAny, FixtureExcludeSetup, FixtureExcludeCleanup, TestsInformation, Union, Parallel, BuildConfig, TestDir, ResourceSpecFile, Timeout, Repeat, NoTests, StopOnFailure, ShowOnly, ShowOnlyAs, PrintLabels, RerunFailed, Verbosity}
use Rattle.ct_args.specs.declared.spelling.Form.{Form}
use Rattle.ct_args.specs.declared.spelling.Form.TheVariants.{Flag, Short, Long, Digits, Inside}
use Rattle.ct_args.specs.declared.spelling.ValuePlace.{ValuePlace}
use Rattle.ct_args.specs.declared.spelling.ValuePlace.TheVariants.{Nowhere, NextWord, Behind}
use Rattle.ct_args.specs.declared.spelling.Said.{Said}

-- a word that names an option, and how the value of the option goes with it
pub record Spelling : Type 0 where
  pub name : List ℕ
  pub option : CommandOption
  pub form : Form

-- a name of an option in this form
abbrev pub spelled : List ℕ → CommandOption → Form → Spelling
spelled name option form = record { name = name; option = option; form = form }

-- the names of all options
unfoldable pub spellings : List Spelling
spellings =
    spelled (codes "-R") TestsRegex Short ∷ spelled (codes "--tests-regex") TestsRegex Long ∷
    spelled (codes "-E") ExcludeRegex Short ∷ spelled (codes "--exclude-regex") ExcludeRegex Long ∷
    spelled (codes "-L") LabelRegex Short ∷ spelled (codes "--label-regex") LabelRegex Long ∷
    spelled (codes "-LE") LabelExclude Short ∷ spelled (codes "--label-exclude") LabelExclude Long ∷
    spelled (codes "-FA") FixtureExcludeAny Short
    ∷ spelled (codes "--fixture-exclude-any") FixtureExcludeAny Long ∷
    spelled (codes "-FS") FixtureExcludeSetup Short
    ∷ spelled (codes "--fixture-exclude-setup") FixtureExcludeSetup Long ∷
    spelled (codes "-FC") FixtureExcludeCleanup Short
    ∷ spelled (codes "--fixture-exclude-cleanup") FixtureExcludeCleanup Long ∷
    spelled (codes "-I") TestsInformation Short
    ∷ spelled (codes "--tests-information") TestsInformation Long ∷
    spelled (codes "-U") Union Flag ∷ spelled (codes "--union") Union Flag ∷
    spelled (codes "-j") Parallel Digits ∷ spelled (codes "--parallel") Parallel Long ∷
    spelled (codes "-C") BuildConfig Short ∷ spelled (codes "--build-config") BuildConfig Long ∷
    spelled (codes "--test-dir") TestDir Long ∷
    spelled (codes "--resource-spec-file") ResourceSpecFile Long ∷
    spelled (codes "--timeout") Timeout Long ∷
    spelled (codes "--repeat") Repeat Long ∷
    spelled (codes "--no-tests") NoTests Inside ∷
    spelled (codes "--stop-on-failure") StopOnFailure Flag ∷
    spelled (codes "-N") ShowOnly Flag ∷ spelled (codes "--show-only") ShowOnly Flag ∷
    spelled (codes "--show-only") ShowOnlyAs Inside ∷
    spelled (codes "--print-labels") PrintLabels Flag ∷
    spelled (codes "--rerun-failed") RerunFailed Flag ∷
    spelled (codes "-V") Verbosity Flag ∷ spelled (codes "--verbose") Verbosity Flag ∷
    spelled (codes "-VV") Verbosity Flag ∷ spelled (codes "--extra-verbose") Verbosity Flag ∷
    spelled (codes "--output-on-failure") Verbosity Flag ∷
    spelled (codes "--progress") Verbosity Flag ∷
    []

-- the place, where nothing stands behind the name
abbrev pub place_at_end : ValuePlace → List ℕ → Option ValuePlace
place_at_end place [] = Some place
place_at_end place (byte ∷ bytes) = None

-- the value stands behind the name and a `=`
abbrev pub behind_equals : List ℕ → List ℕ → Option ValuePlace
behind_equals name [] = None
behind_equals name (byte ∷ bytes) = if byte == equals_sign then Some (Behind (length name + 1)) else None

-- where the value stands, by the form and by what stands behind the name in the same word; none where that is
-- not of the form
abbrev pub place_behind : Form → List ℕ → List ℕ → Option ValuePlace
place_behind Flag name rest = place_at_end Nowhere rest
place_behind Short name rest = place_at_end NextWord rest
place_behind Long name rest = option_or (place_at_end NextWord rest) (behind_equals name rest)
place_behind Digits name rest =
    option_or (place_at_end NextWord rest) (if is_numeral rest then Some (Behind (length name)) else None)
place_behind Inside name rest = behind_equals name rest

-- where the value stands in a word that begins with the name
abbrev pub place_in_word : Form → List ℕ → List ℕ → Option ValuePlace
place_in_word form name word =
    if starts_with nat_eq word name then place_behind form name (drop (length name) word) else None

-- what a word says by a spelling, where it is the spelling's word
abbrev pub said_by : List ℕ → Spelling → Option Said
said_by word spelling =
    option_map (λ place.
    record { option = spelling.option; value = place }) (place_in_word spelling.form spelling.name word)

-- what a word says by the first of some spellings whose word it is
abbrev pub first_said : List ℕ → List Spelling → Option Said
first_said word [] = None
first_said word (spelling ∷ others) = option_or (said_by word spelling) (first_said word others)

-- what a word says: an option, and where its value stands; none where it is no option
unfoldable pub said_of : List ℕ → Option Said
said_of word = first_said word spellings

-- a row of the program's table as a spelling
abbrev pub spelling_of : (Bor (List ℕ) × CommandOption × Form) → Spelling
spelling_of row = spelled row.0.now row.1 row.2
