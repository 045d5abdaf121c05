-- What the value of each option says, or why it is refused. Source: CMake manual, ctest(1), Options.
-- The bounds, what is refused, and that a zero in -I stands for 1 are this project's choice.
use Rattle.std.specs.Prelude.{ℕ, ◌+◌, ◌-◌, ◌^◌, min, max, nat_lt, bytes_eq, Bool, true, false, ◌||◌, List, [], ◌∷◌, take, drop, Option, Some, None, slice_get, unwrap_or, ok_or, Result, Ok, Err, codes, ◌==◌, if◌then◌else◌}
use Rattle.std.specs.List.{position, filter_map}
use Rattle.std.specs.Option.{option_flatten}
use Rattle.std.specs.Result.{result_or}
use Rattle.ct_base.specs.Bytes.{colon}
use Rattle.ct_base.specs.Seconds.{number_in, micros_in}
use Rattle.ct_regex.specs.Tree.{Tree}
use Rattle.ct_regex.specs.Reading.{reading}
use Rattle.ct_groups.specs.Description.{pieces_of}
use Rattle.ct_props.specs.declared.wanted.Numbers.{Numbers}
use Rattle.ct_verdict.specs.declared.repeat.Mode.{Mode}
use Rattle.ct_verdict.specs.declared.repeat.Mode.TheVariants.{UntilFail, UntilPass, AfterTimeout}
use Rattle.ct_verdict.specs.declared.repeat.Repeat.{Repeat}
use Rattle.ct_args.specs.declared.usage.UsageKind.{UsageKind}
use Rattle.ct_args.specs.declared.usage.UsageKind.TheVariants.{BadNumber, BadPattern, BadMode}
use Rattle.ct_args.specs.declared.values.TheConstants.{MOST_LEVEL, MOST_TIMES}

-- what comes of a value that was read, or why it was refused
abbrev pub then_read : {X Y : Type 0} → Result X UsageKind → (X → Result Y UsageKind) → Result Y UsageKind
then_read (Ok x) next = next x
then_read (Err kind) next = Err kind

-- a regular expression
unfoldable pub pattern_in : List ℕ → Result Tree UsageKind
pattern_in text = result_or (reading text) (Err BadPattern)

-- the greatest level
abbrev pub greatest_level : ℕ
greatest_level = MOST_LEVEL

-- how often a test can be tried at most
abbrev pub greatest_times : ℕ
greatest_times = MOST_TIMES

-- a level of at least 1; one above the greatest is taken as that
abbrev pub level_of : ℕ → Result ℕ UsageKind
level_of level = if level == 0 then Err BadNumber else Ok (min level greatest_level)

-- -j: digits
unfoldable pub level_in : List ℕ → Result ℕ UsageKind
level_in text = then_read (ok_or (number_in text) BadNumber) level_of

-- --timeout: seconds, as microseconds
unfoldable pub limit_in : List ℕ → Result ℕ UsageKind
limit_in text = ok_or (micros_in text) BadNumber

-- the mode of a name
abbrev pub mode_in : List ℕ → Result Mode UsageKind
mode_in word =
    if bytes_eq word (codes "until-fail") then Ok UntilFail
    else (if bytes_eq word (codes "until-pass") then Ok UntilPass
    else (if bytes_eq word (codes "after-timeout") then Ok AfterTimeout
    else Err BadMode))

-- so many times, from 1 to the greatest number
abbrev pub times_of : ℕ → Result ℕ UsageKind
times_of times = if times == 0 || nat_lt greatest_times times then Err BadNumber else Ok times

-- how often: digits
abbrev pub times_in : List ℕ → Result ℕ UsageKind
times_in text = then_read (ok_or (number_in text) BadNumber) times_of

-- the mode and how often, in a text whose first `:` stands at that place; the mode is looked at first
abbrev pub repeat_at : List ℕ → Option ℕ → Result Repeat UsageKind
repeat_at text None = Err BadMode
repeat_at text (Some at) =
    then_read (mode_in (take at text)) (λ mode.
    then_read (times_in (drop (at + 1) text)) (λ times. Ok (record { mode = mode; times = times })))

-- --repeat: a mode, a `:` and how often
unfoldable pub repeat_in : List ℕ → Result Repeat UsageKind
repeat_in text = repeat_at text (position (λ byte. byte == colon) text)

-- --no-tests: whether it is an error that no test is found
unfoldable pub is_error_in : List ℕ → Result Bool UsageKind
is_error_in text =
    if bytes_eq text (codes "error")
    then Ok true
    else (if bytes_eq text (codes "ignore") then Ok false else Err BadMode)

-- --show-only=: the one form of the list that can be named
unfoldable pub list_form_in : List ℕ → Result (Unit {0}) UsageKind
list_form_in text = if bytes_eq text (codes "json-v1") then Ok tt else Err BadMode

-- the greatest number of a test that -I can name
abbrev pub most_number : ℕ
most_number = 2 ^ 32 - 1

-- an entry of -I: digits, or nothing; a number above 4,294,967,295 is taken as that
abbrev pub entry_in : List ℕ → Result (Option ℕ) UsageKind
entry_in [] = Ok None
entry_in (byte ∷ bytes) =
    then_read (ok_or (number_in (byte ∷ bytes)) BadNumber) (λ number. Ok (Some (min number most_number)))

-- the entries in these texts
abbrev pub entries_in : List (List ℕ) → Result (List (Option ℕ)) UsageKind
entries_in [] = Ok []
entries_in (text ∷ texts) =
    then_read (entry_in text) (λ entry. then_read (entries_in texts) (λ entries. Ok (entry ∷ entries)))

-- the number at a place of the entries, from 0, where one stands there
abbrev pub number_at : ℕ → List (Option ℕ) → Option ℕ
number_at at entries = option_flatten (slice_get entries at)

-- a number, and 1 in place of none and of zero
abbrev pub or_one : Option ℕ → ℕ
or_one number = max (unwrap_or number 1) 1

-- the numbers among these entries
abbrev pub numbers_among : List (Option ℕ) → List ℕ
numbers_among entries = filter_map (λ entry. entry) entries

-- start, end and stride, and behind them single numbers
abbrev pub numbers_of : List (Option ℕ) → Numbers
numbers_of entries = record {
  start = or_one (number_at 0 entries);
  end = number_at 1 entries;
  stride = or_one (number_at 2 entries);
  more = numbers_among (drop 3 entries);
}

-- -I: entries with a comma between
unfoldable pub numbers_in : List ℕ → Result Numbers UsageKind
numbers_in text = then_read (entries_in (pieces_of text)) (λ entries. Ok (numbers_of entries))

-- a text, which is never refused
abbrev pub text_in : List ℕ → Result (List ℕ) UsageKind
text_in text = Ok text
