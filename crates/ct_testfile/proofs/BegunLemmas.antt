-- A command that begins keeps the variables, and its values are short. Values that are too long are refused.
use Rattle.std.proofs.Common.{◌≡◌, ℕ, ◌+◌, ◌≤◌, Bool, true, false, cond, ◌||◌, nat_lt, List, [], ◌∷◌, length, Option, Some, None, Result, Ok, Err, IfOk, refl, sym, subst, ap, arith}
use Rattle.std.proofs.lemmas.Bool.{ltb-false, or_parts}
use Rattle.std.proofs.lemmas.List.Elements.{All-nil, All-cons}
use Rattle.std.specs.List.{list_any}
use Rattle.ct_lex.specs.declared.call.Arg.{Arg}
use Rattle.ct_suite.specs.Count.{raised}
use Rattle.ct_suite.specs.Tests.{AreShort}
use Rattle.ct_suite.specs.Values.{Variable, is_too_long, size, texts, values_of}
use Rattle.ct_suite.specs.Readers.{StopsFor, are_too_long}
use Rattle.ct_suite.specs.declared.fault.ValueFault.{ValueFault}
use Rattle.ct_suite.specs.declared.fault.ValueFault.TheVariants as Values
use Rattle.ct_suite.specs.declared.value.Value.{Value}
use Rattle.ct_testfile.specs.Outcome.{◌>>=◌, or_refused}
use Rattle.ct_testfile.specs.Commands.{begun, with_command, evaluated, taken, value_limits}
use Rattle.ct_testfile.specs.Says.{Follows, stop_for}
use Rattle.ct_testfile.specs.declared.fault.ReadKind.{ReadKind}
use Rattle.ct_testfile.specs.declared.fault.ReadKind.TheVariants.{TooLong, TooManyCommands}
use Rattle.ct_testfile.specs.declared.limits.Limits.{Limits}
use Rattle.ct_testfile.specs.declared.state.State.{State}
use Rattle.ct_suite.proofs.ReaderLemmas.{above_more}

-- the variables of the state, or the given ones where it is refused; counting keeps the variables
abbrev variables_or : Result State ReadKind → List Variable → List Variable
variables_or (Ok state) variables = state.variables
variables_or (Err kind) variables = variables

counted_by : (raised_to : Option ℕ) (state next : State) → (or_refused raised_to TooManyCommands >>= λ n. Ok (record state { commands = n })) ≡ Ok next → next.variables ≡ state.variables
counted_by None state next is = ap (λ says. variables_or says state.variables) (sym is)
counted_by (Some n) state next is = ap (λ says. variables_or says state.variables) (sym is)

pub counted-variables : (limits : Limits) (state next : State) → with_command limits state ≡ Ok next → next.variables ≡ state.variables
counted-variables limits state next is = counted_by (raised limits.commands state.commands 1) state next is

-- values that are too long are refused, whatever was taken before
abbrev by_sum : List Value → State → Bool → Result (List Value × State) ReadKind
by_sum values state past =
    or_refused (cond past None (Some (state.value_bytes + size values))) TooLong >>= (λ n. Ok (record state { value_bytes = n })) >>= λ next. Ok (values, next)

abbrev by_both : Limits → List Value → State → Bool → Result (List Value × State) ReadKind
by_both limits values state any = cond any (Err TooLong) (taken limits (size values) state >>= λ next. Ok (values, next))

evaluated_by : (limits : Limits) (values : List Value) (state : State) (any : Bool) → (any || nat_lt limits.all_value_bytes (size values)) ≡ true → by_both limits values state any ≡ Err TooLong
evaluated_by limits values state true is = refl
evaluated_by limits values state false is =
    ap (by_sum values state) (above_more limits.all_value_bytes (size values) (state.value_bytes + size values) (omega arith) is)

pub stops-evaluated : (limits : Limits) (values : List Value) (state : State) (why : ValueFault) → StopsFor (value_limits limits) values why → Follows {A = List Value × State} (Err (stop_for why)) (evaluated limits values state)
stops-evaluated limits values state Values.TooLong is = evaluated_by limits values state (list_any (is_too_long limits.value_bytes) values) is
stops-evaluated limits values state Values.NoMemory is = tt

-- where the values are not too long, what remains is to count their bytes
pub evaluated_within : (limits : Limits) (values : List Value) (state : State) → are_too_long (value_limits limits) values ≡ false → evaluated limits values state ≡ (taken limits (size values) state >>= λ next. Ok (values, next))
evaluated_within limits values state within =
    ap (by_both limits values state) (or_parts (list_any (is_too_long limits.value_bytes) values) (nat_lt limits.all_value_bytes (size values)) within).0

abbrev Short : ℕ → List ℕ → Type 0
Short most value = length value ≤ most

texts-short : (limits : Limits) (most : ℕ) → limits.value_bytes ≤ most → (values : List Value) → list_any (is_too_long limits.value_bytes) values ≡ false → AreShort most (texts values)
texts-short limits most few [] none = All-nil (Short most)
texts-short limits most few (value ∷ values) none =
    let parts = or_parts (is_too_long limits.value_bytes value) (list_any (is_too_long limits.value_bytes) values) none in
    let here = ltb-false limits.value_bytes (length value.text) parts.0 in
    All-cons (Short most) value.text (texts values) (omega arith) (texts-short limits most few values parts.1)

IfOk-then : {A B : Type 0} (P : B → Type 0) (first : Result A ReadKind) (next : A → Result B ReadKind) → ((x : A) → IfOk (next x) P) → IfOk (first >>= next) P
IfOk-then P (Ok x) next each = each x
IfOk-then P (Err kind) next each = tt

-- the values of a command that has begun are short
module _ (limits : Limits) (most : ℕ) (few : limits.value_bytes ≤ most) where
  abbrev Begun : List Value × State → Type 0
  Begun read = AreShort most (texts read.0)

  short_by : (values : List Value) (state : State) (is : Bool) → list_any (is_too_long limits.value_bytes) values ≡ is → IfOk (cond is (Err TooLong) (taken limits (size values) state >>= λ next. Ok (values, next))) Begun
  short_by values state true is = tt
  short_by values state false is = IfOk-then Begun (taken limits (size values) state) (λ next. Ok (values, next)) (λ next. texts-short limits most few values is)

  evaluated-short : (values : List Value) (state : State) → IfOk (evaluated limits values state) Begun
  evaluated-short values state = short_by values state (list_any (is_too_long limits.value_bytes) values) refl

  pub begun-short : (args : List Arg) (state next : State) (values : List Value) → begun limits args state ≡ Ok (values, next) → AreShort most (texts values)
  begun-short args state next values is =
      let P : Result (List Value × State) ReadKind → Type 0 = λ read. IfOk read Begun in
      subst P is (IfOk-then Begun (with_command limits state) (evaluated limits (values_of state.variables args)) (evaluated-short (values_of state.variables args)))
