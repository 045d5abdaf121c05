-- The rule of each key: what its value says. A key that a test does not have is `None`, and an empty text
-- where a text is read. Source: CMake manual, cmake-properties(7), Properties on Tests. What is refused, and
-- the bounds, are this project's choice.
use Rattle.std.specs.Prelude.{ℕ, ◌^◌, min, max, ℤ, pos, neg_ℤ, bytes_eq, Bool, ◌||◌, List, [], ◌∷◌, map, nat_lt, nat_le, Option, Some, None, Result, Ok, Err, codes, ◌==◌, if◌then◌else◌}
use Rattle.std.specs.List.{find}
use Rattle.std.specs.Option.{option_map, option_and_then}
use Rattle.std.specs.Char.{to_ascii_lowercase}
use Rattle.ct_base.specs.Bytes.{minus}
use Rattle.ct_base.specs.Entries.{entries_of}
use Rattle.ct_base.specs.Path.{joined}
use Rattle.ct_base.specs.Seconds.{number_in, micros_in}
use Rattle.ct_base.specs.declared.defs.Pair.{Pair}
use Rattle.ct_regex.specs.Tree.{Tree}
use Rattle.ct_regex.specs.Reading.{reading, and_then}
use Rattle.ct_regex.specs.declared.fault.RegexFault.{RegexFault}
use Rattle.ct_groups.specs.GroupsIn.{groups_in}
use Rattle.ct_groups.specs.declared.fault.GroupsFault.{GroupsFault}
use Rattle.ct_groups.specs.declared.groups.Groups.{Groups}
use Rattle.ct_props.specs.declared.numbers.TheConstants.{MOST_PROCESSORS}
use Rattle.ct_props.specs.declared.fault.PropKind.{PropKind}
use Rattle.ct_props.specs.declared.fault.PropKind.TheVariants.{BadNumber, BadPattern, BadGroups}

-- the value of a key, if the test has the key
abbrev pub value_of_key : List Pair → List ℕ → Option (List ℕ)
value_of_key props key =
    option_map (λ (pair : Pair). pair.value) (find (λ (pair : Pair). bytes_eq pair.name key) props)

-- a text, or an empty one where there is none
abbrev pub or_empty : Option (List ℕ) → List ℕ
or_empty None = []
or_empty (Some text) = text

-- the value of a key, or an empty text where the test does not have the key
abbrev pub text_of_key : List Pair → List ℕ → List ℕ
text_of_key props key = or_empty (value_of_key props key)

-- two texts are the same without regard to case
abbrev pub is_same_word : List ℕ → List ℕ → Bool
is_same_word text word = bytes_eq (map to_ascii_lowercase text) (map to_ascii_lowercase word)

-- a truth value: true for 1, ON, YES, TRUE and Y alone, without regard to case
abbrev pub is_true_text : List ℕ → Bool
is_true_text text =
    is_same_word text (codes "1")
    || is_same_word text (codes "ON")
    || is_same_word text (codes "YES")
    || is_same_word text (codes "TRUE")
    || is_same_word text (codes "Y")

-- a number, or the fault of a bad number where there is none
abbrev pub or_bad_number : {X : Type 0} → Option X → Result X PropKind
or_bad_number None = Err BadNumber
or_bad_number (Some x) = Ok x

-- the greatest number of processors of a test
abbrev pub most_processors : ℕ
most_processors = MOST_PROCESSORS

-- the processors that a number asks for, from 1 to the greatest number
abbrev pub bounded_processors : ℕ → ℕ
bounded_processors number = min (max number 1) most_processors

-- PROCESSORS: digits; one without the key
abbrev pub processors_in : Option (List ℕ) → Result ℕ PropKind
processors_in None = Ok 1
processors_in (Some text) = or_bad_number (option_map bounded_processors (number_in text))

-- a time or a cost in microseconds, which is written as seconds, if the key is set
abbrev pub seconds_in : Option (List ℕ) → Result (Option ℕ) PropKind
seconds_in None = Ok None
seconds_in (Some text) = or_bad_number (option_map Some (micros_in text))

-- a code that is not below zero, within 32 bits
abbrev pub code_from_zero : ℕ → Option ℤ
code_from_zero n = if nat_lt n (2 ^ 31) then Some (pos n) else None

-- a code that is not above zero, within 32 bits
abbrev pub code_to_zero : ℕ → Option ℤ
code_to_zero n = if nat_le n (2 ^ 31) then Some (neg_ℤ (pos n)) else None

-- the exit code in a text: an optional `-` and digits, within 32 bits
abbrev pub code_in : List ℕ → Option ℤ
code_in [] = None
code_in (first ∷ rest) =
    if first == minus
    then option_and_then code_to_zero (number_in rest)
    else option_and_then code_from_zero (number_in (first ∷ rest))

-- SKIP_RETURN_CODE: an exit code, if the key is set
abbrev pub skip_code_in : Option (List ℕ) → Result (Option ℤ) PropKind
skip_code_in None = Ok None
skip_code_in (Some text) = or_bad_number (option_map Some (code_in text))

-- the patterns of these texts, or the fault of the first text that is no pattern
abbrev pub patterns_of : List (List ℕ) → Result (List Tree) RegexFault
patterns_of [] = Ok []
patterns_of (text ∷ texts) =
    and_then (reading text) (λ one. and_then (patterns_of texts) (λ others. Ok (one ∷ others)))

-- the patterns, or the fault of a bad pattern
abbrev pub or_bad_pattern : Result (List Tree) RegexFault → Result (List Tree) PropKind
or_bad_pattern (Ok trees) = Ok trees
or_bad_pattern (Err why) = Err (BadPattern why)

-- FAIL_, PASS_ and SKIP_REGULAR_EXPRESSION: a list of patterns
abbrev pub patterns_in : List ℕ → Result (List Tree) PropKind
patterns_in text = or_bad_pattern (patterns_of (entries_of text))

-- the groups, or the fault of bad groups
abbrev pub or_bad_groups : Result Groups GroupsFault → Result Groups PropKind
or_bad_groups (Ok groups) = Ok groups
or_bad_groups (Err why) = Err (BadGroups why)

-- RESOURCE_GROUPS: a list of resource groups
abbrev pub resource_groups_in : List ℕ → Result Groups PropKind
resource_groups_in text = or_bad_groups (groups_in text)

-- WORKING_DIRECTORY: the folder of the test file, or this one below it
abbrev pub working_dir_in : List ℕ → List ℕ → List ℕ
working_dir_in dir [] = dir
working_dir_in dir (byte ∷ bytes) = joined dir (byte ∷ bytes)
