-- The words, cut from the left into options with their values. Source: CMake manual, ctest(1), Options.
use Rattle.std.specs.Prelude.{ℕ, ◌+◌, Bool, true, false, List, [], ◌∷◌, drop, slice_get, Option, Some, None, option_map, Result, if◌then◌else◌}
use denote.Enum.Bare.{sameb}
use Rattle.std.specs.List.{list_any, filter_map}
use Rattle.std.specs.Result.{result_ok}
use Rattle.ct_args.specs.contracts.option.CommandOption.{the_type}
use Rattle.ct_args.specs.declared.option.CommandOption.{CommandOption}
use Rattle.ct_args.specs.declared.spelling.ValuePlace.{ValuePlace}
use Rattle.ct_args.specs.declared.spelling.ValuePlace.TheVariants.{Nowhere, NextWord, Behind}
use Rattle.ct_args.specs.declared.spelling.Said.{Said}
use Rattle.ct_args.specs.declared.usage.UsageKind.{UsageKind}
use Rattle.ct_args.specs.Spelling.{said_of}

-- the value of an option: a text, and the number of the word that holds it; words are numbered from 1
pub record Value : Type 0 where
  pub word : ℕ
  pub text : List ℕ

-- what a word gives: its number; the option that it names, if any; and the value of the option, if there is
-- one
pub record Given : Type 0 where
  pub word : ℕ
  pub option : Option CommandOption
  pub value : Option Value

-- the value of an option whose word has this number and text, by where the value stands and by the next word
abbrev pub value_at : ValuePlace → ℕ → List ℕ → Option (List ℕ) → Option Value
value_at Nowhere word text next = None
value_at (Behind count) word text next = Some (record { word = word; text = drop count text })
value_at NextWord word text next = option_map (λ other. record { word = word + 1; text = other }) next

-- what a word with this number and text gives, by what it says and by the next word
abbrev pub given_by : Option Said → ℕ → List ℕ → Option (List ℕ) → Given
given_by None word text next = record { word = word; option = None; value = None }
given_by (Some said) word text next = record {
  word = word;
  option = Some said.option;
  value = value_at said.value word text next;
}

-- the value of an option is the next word
abbrev pub is_next : ValuePlace → Bool
is_next Nowhere = false
is_next NextWord = true
is_next (Behind count) = false

-- the word names an option whose value is the next word
abbrev pub takes_next : Option Said → Bool
takes_next None = false
takes_next (Some said) = is_next said.value

-- the options that words are, the first of which has this number
abbrev pub options_from : ℕ → List (List ℕ) → List Given
options_from number [] = []
options_from number (word ∷ []) = given_by (said_of word) number word None ∷ []
options_from number (word ∷ next ∷ others) =
    given_by (said_of word) number word (Some next)
    ∷ (if takes_next (said_of word)
    then options_from (number + 2) others
    else options_from (number + 1) (next ∷ others))

-- the options that the words of a command line are
abbrev pub options_in : List (List ℕ) → List Given
options_in words = options_from 1 words

-- both are the same option
abbrev pub is_same : CommandOption → CommandOption → Bool
is_same option other = sameb the_type option other

-- it is this option
abbrev pub names_option : CommandOption → Option CommandOption → Bool
names_option option None = false
names_option option (Some other) = is_same option other

-- whether this is the option that is given
abbrev pub is_of : CommandOption → Given → Bool
is_of option given = names_option option given.option

-- whether the option is given
abbrev pub is_given : CommandOption → List Given → Bool
is_given option given = list_any (is_of option) given

-- what a value says by a rule, where there is one that the rule does not refuse
abbrev pub value_by : {X : Type 0} → (List ℕ → Result X UsageKind) → Option Value → Option X
value_by rule None = None
value_by rule (Some value) = result_ok (rule value.text)

-- what is given as the value of this option, by the option's rule
abbrev pub given_value : {X : Type 0} → (List ℕ → Result X UsageKind) → CommandOption → Given → Option X
given_value rule option given = if is_of option given then value_by rule given.value else None

-- what the values of the option say by the option's rule, in order
abbrev pub option_values : {X : Type 0} → (List ℕ → Result X UsageKind) → CommandOption → List Given → List X
option_values rule option given = filter_map (given_value rule option) given

-- what the value of the option says by the option's rule, where it is given
abbrev pub option_value : {X : Type 0} → (List ℕ → Result X UsageKind) → CommandOption → List Given → Option X
option_value rule option given = slice_get (option_values rule option given) 0

-- the number of the last word that belongs to an option in the word with this number, by its value
abbrev pub end_by : ℕ → Option Value → ℕ
end_by word None = word
end_by word (Some value) = value.word

-- the number of the last word that belongs to what is given
abbrev pub last_word_of : Given → ℕ
last_word_of given = end_by given.word given.value
