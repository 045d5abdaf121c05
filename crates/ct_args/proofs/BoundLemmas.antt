-- The bounds of what is read: each value of an option meets what its rule promises.
use Rattle.std.proofs.Common.{ℕ, ◌+◌, ◌≤◌, ◌≡◌, Bool, true, false, cond, List, [], ◌∷◌, take, drop, min, refl, ap, subst, Some, None, Ok, Err, ◌==◌, nat_lt, ◌||◌, arith}
use Rattle.std.specs.Prelude.{Option, Result, unwrap_or, ok_or, slice_get}
use Rattle.std.specs.List.{filter_map, cons_option, position}
use Rattle.std.specs.Result.{result_ok}
use Rattle.std.proofs.lemmas.Bool.Decides.{nat_tests}
use Rattle.ct_base.specs.Bytes.{colon}
use Rattle.ct_base.specs.Seconds.{number_in}
use Rattle.ct_verdict.specs.declared.repeat.Mode.{Mode}
use Rattle.ct_verdict.specs.declared.repeat.Repeat.{Repeat}
use Rattle.ct_args.specs.declared.option.CommandOption.{CommandOption}
use Rattle.ct_args.specs.declared.option.CommandOption.TheVariants.{Parallel, Repeat as RepeatOption}
use Rattle.ct_args.specs.declared.usage.UsageKind.{UsageKind}
use Rattle.ct_args.specs.declared.usage.UsageKind.TheVariants.{BadNumber}
use Rattle.ct_args.specs.declared.usage.UsageFault.{UsageFault}
use Rattle.ct_args.specs.Given.{Value, Given, options_in, is_of, value_by, given_value, option_value}
use Rattle.ct_args.specs.Values.{greatest_level, greatest_times, then_read, level_of, level_in, mode_in, times_of, times_in, repeat_at, repeat_in}
use Rattle.ct_args.specs.Fault.{faults_in}
use Rattle.ct_args.specs.declared.invocation.Invocation.{Invocation}
use Rattle.ct_args.specs.Invocation.{InvocationValue, once, invocation_of, unless_refused, invocation_in, IsBounded, invocation_seen}

-- each value of a rule meets a fact
abbrev Promises : {X : Type 0} → (List ℕ → Result X UsageKind) → (X → Type 0) → Type 0
Promises {X} rule P = (text : List ℕ) (x : X) → rule text ≡ Ok x → P x

ok-promised : {X : Type 0} (P : X → Type 0) (r : Result X UsageKind) (x : X) → ((y : X) → r ≡ Ok y → P y) → result_ok r ≡ Some x → P x
ok-promised P (Ok y) x promised e = promised x (let s : y ≡ x = cc in ap Ok s)
ok-promised P (Err kind) x promised e = cc

value-promised : {X : Type 0} (rule : List ℕ → Result X UsageKind) (P : X → Type 0) (value : Option Value) (x : X) → Promises rule P → value_by rule value ≡ Some x → P x
value-promised rule P None x promised e = cc
value-promised rule P (Some value) x promised e = ok-promised P (rule value.text) x (promised value.text) e

given-promised : {X : Type 0} (rule : List ℕ → Result X UsageKind) (P : X → Type 0) (value : Option Value) (same : Bool) (x : X) → Promises rule P → cond same (value_by rule value) None ≡ Some x → P x
given-promised rule P value true x promised e = value-promised rule P value x promised e
given-promised rule P value false x promised e = cc

first-promised : {X : Type 0} (P : X → Type 0) (first : Option X) (others : List X) (x : X) → ((y : X) → first ≡ Some y → P y) → (slice_get others 0 ≡ Some x → P x) → slice_get (cons_option first others) 0 ≡ Some x → P x
first-promised P None others x here later e = later e
first-promised P (Some y) others x here later e = here x e

-- the value of an option meets what its rule promises
promised : {X : Type 0} (rule : List ℕ → Result X UsageKind) (P : X → Type 0) (own : CommandOption) → Promises rule P → (given : List Given) (x : X) → option_value rule own given ≡ Some x → P x
promised rule P own promises [] x e = cc
promised rule P own promises (one ∷ others) x e =
    first-promised P (given_value rule own one) (filter_map (given_value rule own) others) x
    (λ y found. given-promised rule P one.value (is_of own one) y promises found)
    (promised rule P own promises others x) e

-- a number within bounds
record IsWithin (least most number : ℕ) : Type 0 where
  some : least ≤ number
  few : number ≤ most

level-zero : (number level : ℕ) (zero : Bool) → (number == 0) ≡ zero → cond zero (Err BadNumber) (Ok (min number greatest_level)) ≡ Ok level → IsWithin 1 greatest_level level
level-zero number level true e is = cc
level-zero number level false e is =
    let same : min number greatest_level ≡ level = cc in
    record { some = grind (arith, nat_tests, same, e); few = omega (arith, same) }

level-number : (number : Option ℕ) (level : ℕ) → then_read (ok_or number BadNumber) level_of ≡ Ok level → IsWithin 1 greatest_level level
level-number None level is = cc
level-number (Some number) level is = level-zero number level (number == 0) refl is

level-bounded : Promises level_in (IsWithin 1 greatest_level)
unfolding level_in
level-bounded text level is = level-number (number_in text) level is

times-test : (number times : ℕ) (out : Bool) → (number == 0 || nat_lt greatest_times number) ≡ out → cond out (Err BadNumber) (Ok number) ≡ Ok times → IsWithin 1 greatest_times times
times-test number times true e is = cc
times-test number times false e is =
    let same : number ≡ times = cc in
    record { some = grind (arith, nat_tests, same, e); few = grind (arith, nat_tests, same, e) }

times-number : (number : Option ℕ) (times : ℕ) → then_read (ok_or number BadNumber) times_of ≡ Ok times → IsWithin 1 greatest_times times
times-number None times is = cc
times-number (Some number) times is = times-test number times (number == 0 || nat_lt greatest_times number) refl is

-- the number of times in a value of --repeat
abbrev HasTimes : Repeat → Type 0
HasTimes repeat = IsWithin 1 greatest_times repeat.times

times-made : (mode : Mode) (times : Result ℕ UsageKind) (repeat : Repeat) → ((n : ℕ) → times ≡ Ok n → IsWithin 1 greatest_times n) → then_read times (λ n. Ok (record { mode = mode; times = n })) ≡ Ok repeat → HasTimes repeat
times-made mode (Ok n) repeat bounded is =
    let made : Repeat = record { mode = mode; times = n } in
    let same : made ≡ repeat = cc in
    subst HasTimes same (bounded n refl)
times-made mode (Err kind) repeat bounded is = cc

mode-made : (mode : Result Mode UsageKind) (times : Result ℕ UsageKind) (repeat : Repeat) → ((n : ℕ) → times ≡ Ok n → IsWithin 1 greatest_times n) → then_read mode (λ m. then_read times (λ n. Ok (record { mode = m; times = n }))) ≡ Ok repeat → HasTimes repeat
mode-made (Ok mode) times repeat bounded is = times-made mode times repeat bounded is
mode-made (Err kind) times repeat bounded is = cc

repeat-bounded-at : (text : List ℕ) (at : Option ℕ) (repeat : Repeat) → repeat_at text at ≡ Ok repeat → HasTimes repeat
repeat-bounded-at text None repeat is = cc
repeat-bounded-at text (Some at) repeat is =
    mode-made (mode_in (take at text)) (times_in (drop (at + 1) text)) repeat (λ n e. times-number (number_in (drop (at + 1) text)) n e) is

repeat-bounded : Promises repeat_in HasTimes
unfolding repeat_in
repeat-bounded text repeat is = repeat-bounded-at text (position (λ byte. byte == colon) text) repeat is

level-usual : (level : Option ℕ) → ((n : ℕ) → level ≡ Some n → IsWithin 1 greatest_level n) → IsWithin 1 greatest_level (unwrap_or level 1)
level-usual None bounded = record { some = omega arith; few = omega arith }
level-usual (Some n) bounded = bounded n refl

repeat-usual : (repeat : Option Repeat) → ((r : Repeat) → repeat ≡ Some r → HasTimes r) → HasTimes (unwrap_or repeat once)
repeat-usual None bounded = record { some = omega arith; few = omega arith }
repeat-usual (Some r) bounded = bounded r refl

accepted : (faults : List UsageFault) (made other : InvocationValue) → unless_refused faults made ≡ Ok other → made ≡ other
accepted [] made other e = cc
accepted (fault ∷ faults) made other e = cc

-- what words ask for is bounded
pub bounded : (words : List (List ℕ)) (made : Invocation) → invocation_in words ≡ Ok (invocation_seen made) → IsBounded made
bounded words made e =
    let given = options_in words in
    let same : invocation_of given ≡ invocation_seen made = accepted (faults_in words) (invocation_of given) (invocation_seen made) e in
    let level : IsWithin 1 greatest_level made.wanted.level =
    subst (λ (value : InvocationValue). IsWithin 1 greatest_level value.level) same (level-usual (option_value level_in Parallel given) (λ n found. promised level_in (IsWithin 1 greatest_level) Parallel level-bounded given n found)) in
    let repeat : HasTimes made.wanted.repeat =
    subst (λ (value : InvocationValue). HasTimes value.repeat) same (repeat-usual (option_value repeat_in RepeatOption given) (λ r found. promised repeat_in HasTimes RepeatOption repeat-bounded given r found)) in
    record { some_level = level.some; most_level = level.few; some_times = repeat.some; most_times = repeat.few }
