-- The number of a refused word is at most the number of words.
use Rattle.std.proofs.Common.{ℕ, ◌+◌, ◌-◌, ◌^◌, ◌<◌, ◌≤◌, ◌≡◌, List, [], ◌∷◌, ◌++◌, length, sym, Some, None, Err, arith}
use Rattle.std.specs.Prelude.{Option, Bool, true, false, not, ◌&&◌, option_map, option_to_list, if◌then◌else◌, ⊤}
use Rattle.ct_args.specs.declared.option.CommandOption.{CommandOption}
use Rattle.ct_args.specs.declared.spelling.Said.{Said}
use Rattle.ct_args.specs.declared.spelling.ValuePlace.{ValuePlace}
use Rattle.ct_args.specs.declared.spelling.ValuePlace.TheVariants.{Nowhere, NextWord, Behind}
use Rattle.ct_args.specs.declared.usage.UsageKind.{UsageKind}
use Rattle.ct_args.specs.declared.usage.UsageFault.{UsageFault}
use Rattle.ct_args.specs.declared.usage.UsageFault.TheVariants.{At, NoMemory}
use Rattle.ct_args.specs.Spelling.{said_of}
use Rattle.ct_args.specs.Given.{Given, Value, given_by, is_given, options_from, options_in, takes_next, value_at}
use Rattle.ct_args.specs.Fault.{fault_of_option, fault_of_value, faults_behind, faults_in, may_be_given_again, repeat_fault, takes_value, why_refused}
use Rattle.ct_args.specs.Invocation.{InvocationValue, invocation_in, invocation_of, unless_refused}
use Rattle.ct_args.specs.Read.{IsFirstFault}
use Rattle.ct_trees.specs.TreeReading.{FitsBehind}

-- a value stands in one of so many words
abbrev pub ValueWithin : ℕ → Option Value → Type 0
ValueWithin most None = ⊤
ValueWithin most (Some value) = value.word ≤ most

-- an option stands in some of so many words
pub record GivenWithin (most : ℕ) (given : Given) : Type 0 where
  pub word : given.word ≤ most
  pub value : ValueWithin most given.value

-- options stand in some of so many words
abbrev pub AreWithin : ℕ → List Given → Type 0
AreWithin most [] = ⊤
AreWithin most (given ∷ others) = GivenWithin most given × AreWithin most others

-- a fault is one of so many words
abbrev pub FaultWithin : ℕ → UsageFault → Type 0
FaultWithin most NoMemory = ⊤
FaultWithin most (At word kind) = word ≤ most

-- a fault, if any, is one of so many words
abbrev pub SomeFaultWithin : ℕ → Option UsageFault → Type 0
SomeFaultWithin most None = ⊤
SomeFaultWithin most (Some fault) = FaultWithin most fault

-- faults are of so many words
abbrev pub FaultsWithin : ℕ → List UsageFault → Type 0
FaultsWithin most [] = ⊤
FaultsWithin most (fault ∷ others) = FaultWithin most fault × FaultsWithin most others

value-within : (place : ValuePlace) (number most : ℕ) (word : List ℕ) (next : List ℕ) → number + 1 ≤ most → ValueWithin most (value_at place number word (Some next))
value-within Nowhere number most word next few = tt
value-within (Behind count) number most word next few = omega arith
value-within NextWord number most word next few = few

value-last : (place : ValuePlace) (number most : ℕ) (word : List ℕ) → number ≤ most → ValueWithin most (value_at place number word None)
value-last Nowhere number most word few = tt
value-last (Behind count) number most word few = few
value-last NextWord number most word few = tt

given-within : (said : Option Said) (number most : ℕ) (word next : List ℕ) → number + 1 ≤ most → GivenWithin most (given_by said number word (Some next))
given-within None number most word next few = record { word = omega arith; value = tt }
given-within (Some said) number most word next few = record { word = omega arith; value = value-within said.value number most word next few }

given-last : (said : Option Said) (number most : ℕ) (word : List ℕ) → number ≤ most → GivenWithin most (given_by said number word None)
given-last None number most word few = record { word = few; value = tt }
given-last (Some said) number most word few = record { word = few; value = value-last said.value number most word few }

within-by : (is : Bool) (most : ℕ) (one two : List Given) → AreWithin most one → AreWithin most two → AreWithin most (if is then one else two)
within-by true most one two p q = p
within-by false most one two p q = q

-- the options that words are stand within the words
options-within : (words : List (List ℕ)) (number most : ℕ) → number + length words ≤ most + 1 → AreWithin most (options_from number words)
options-within [] number most few = tt
options-within (word ∷ []) number most few =
    let here : number ≤ most = omega arith in
    (given-last (said_of word) number most word here, tt)
options-within (word ∷ next ∷ others) number most few =
    let here : number + 1 ≤ most = omega arith in
    let one : (number + 1) + length (next ∷ others) ≤ most + 1 = omega arith in
    let two : (number + 2) + length others ≤ most + 1 = omega arith in
    (given-within (said_of word) number most word next here, within-by (takes_next (said_of word)) most (options_from (number + 2) others) (options_from (number + 1) (next ∷ others)) (options-within others (number + 2) most two) (options-within (next ∷ others) (number + 1) most one))

fault-at : (why : Option UsageKind) (word most : ℕ) → word ≤ most → SomeFaultWithin most (option_map (At word) why)
fault-at None word most few = tt
fault-at (Some kind) word most few = few

fault-of-value : (word most : ℕ) (option : CommandOption) (value : Option Value) → word ≤ most → ValueWithin most value → SomeFaultWithin most (fault_of_value word option value)
fault-of-value word most option None few within = few
fault-of-value word most option (Some value) few within = fault-at (why_refused option value.text) value.word most within

fault-by : (twice takes : Bool) (word most : ℕ) (kind : UsageKind) (behind : Option UsageFault) → word ≤ most → SomeFaultWithin most behind → SomeFaultWithin most (if twice then Some (At word kind) else (if takes then behind else None))
fault-by true takes word most kind behind few within = few
fault-by false true word most kind behind few within = within
fault-by false false word most kind behind few within = tt

fault-of-option : (before : List Given) (word most : ℕ) (option : Option CommandOption) (value : Option Value) → word ≤ most → ValueWithin most value → SomeFaultWithin most (fault_of_option before word option value)
fault-of-option before word most None value few within = few
fault-of-option before word most (Some option) value few within =
    fault-by (not (may_be_given_again option) && is_given option before) (takes_value option) word most _ (fault_of_value word option value) few (fault-of-value word most option value few within)

faults-append : (fault : Option UsageFault) (others : List UsageFault) (most : ℕ) → SomeFaultWithin most fault → FaultsWithin most others → FaultsWithin most (option_to_list fault ++ others)
faults-append None others most one all = all
faults-append (Some fault) others most one all = (one, all)

faults-within : (before given : List Given) (most : ℕ) → AreWithin most given → FaultsWithin most (faults_behind before given)
faults-within before [] most within = tt
faults-within before (given ∷ others) most within =
    faults-append (repeat_fault before given) (faults_behind (before ++ given ∷ []) others) most (fault-of-option before given.word most given.option given.value within.0.word within.0.value) (faults-within (before ++ given ∷ []) others most within.1)

first-within : (faults : List UsageFault) (made : InvocationValue) (fault : UsageFault) (most : ℕ) → FaultsWithin most faults → unless_refused faults made ≡ Err fault → FaultWithin most fault
first-within [] made fault most within e = cc
first-within (first ∷ others) made fault most within e =
    let same : first ≡ fault = cc in
    rw (sym same) within.0

-- the number of the first refused word is at most the number of words
refused-within : (words : List (List ℕ)) (fault : UsageFault) → invocation_in words ≡ Err fault → FaultWithin (length words) fault
refused-within words fault refused =
    first-within (faults_in words) (invocation_of (options_in words)) fault (length words) (faults-within [] (options_in words) (length words) (options-within words 1 (length words) (omega arith))) refused

-- the number of a refused word behind so many others is a 32-bit number
pub fits_behind : (words : List (List ℕ)) (count : ℕ) (fault : UsageFault) → count + length words < 2 ^ 32 - 1 → IsFirstFault (invocation_in words) fault → FitsBehind count fault
fits_behind words count NoMemory few bad = tt
fits_behind words count (At word kind) few bad =
    let most : word ≤ length words = refused-within words (At word kind) bad in
    omega (arith, most)
