-- The slots of the reader say what the options ask for, or their first fault.
use Rattle.std.proofs.Common.{ℕ, ◌≡◌, Bool, true, false, cond, not, ◌&&◌, ◌||◌, List, [], ◌∷◌, ◌++◌, refl, sym, ap, ◌∙◌, Some, None, Ok, Err}
use Rattle.std.specs.Prelude.{Option, Result, is_some, option_map, option_to_list, slice_get}
use Rattle.std.specs.List.{cons_option}
use Rattle.std.specs.Result.{result_ok, result_err}
use Rattle.std.proofs.Math.Bool.{or-false, or-true, or_comm}
use Rattle.std.proofs.lemmas.List.{append-nil, append_assoc}
use Rattle.std.proofs.lemmas.List.Elements.{filter_map-append}
use Rattle.std.proofs.lemmas.List.Folds.{list_any-append}
use Rattle.ct_base.proofs.OptionLemmas.{not_some}
use denote.Enum.Bare.{same_true}
use Rattle.ct_args.specs.contracts.option.CommandOption.{the_type}
use Rattle.ct_args.specs.declared.option.CommandOption.{CommandOption}
use Rattle.ct_args.specs.declared.option.CommandOption.TheVariants.{TestsRegex, ExcludeRegex, LabelRegex, LabelExclude, FixtureExcludeAny, FixtureExcludeSetup, FixtureExcludeCleanup, TestsInformation, Union, Parallel, BuildConfig, TestDir, ResourceSpecFile, Timeout, Repeat, NoTests, StopOnFailure, ShowOnly, ShowOnlyAs, PrintLabels, RerunFailed, Verbosity}
use Rattle.ct_args.specs.declared.usage.UsageKind.{UsageKind}
use Rattle.ct_args.specs.declared.usage.UsageKind.TheVariants.{UnknownOption, NoValue, Twice}
use Rattle.ct_args.specs.declared.usage.UsageFault.{UsageFault}
use Rattle.ct_args.specs.declared.usage.UsageFault.TheVariants.{At, NoMemory}
use Rattle.ct_args.specs.Given.{Value, Given, options_in, is_same, is_of, is_given, value_by, given_value, option_values, option_value}
use Rattle.ct_args.specs.Values.{text_in, pattern_in, numbers_in, level_in, limit_in, repeat_in, is_error_in}
use Rattle.ct_args.specs.Fault.{takes_value, may_be_given_again, why_refused, fault_of_value, repeat_fault, faults_behind}
use Rattle.ct_args.specs.Invocation.{InvocationValue, invocation_of, unless_refused, invocation_in}
use Rattle.ct_args.specs.Read.{IsFirstFault}
use Rattle.ct_args.specs.Slots.{Slots, no_slots, is_slot_full, filled, lengthened, with_text, with_flag, unless_bad, after_value, after_given, then_slots, slots_behind, made_of}

not-itself : (b : Bool) → b ≡ not b → ⊥
not-itself true e = cc
not-itself false e = cc

one_option : {X : Type 0} (o : Option X) → cons_option o [] ≡ option_to_list o
one_option None = refl
one_option (Some x) = refl

first_option : {X : Type 0} (o : Option X) → slice_get (option_to_list o) 0 ≡ o
first_option None = refl
first_option (Some x) = refl

good_there : {X : Type 0} (r : Result X UsageKind) → result_err r ≡ None → is_some (result_ok r) ≡ true
good_there (Ok x) e = refl
good_there (Err kind) e = cc

-- options of which one alone takes a value differ
differs-if : (own option : CommandOption) (b same : Bool) → is_same own option ≡ same → takes_value own ≡ b → takes_value option ≡ not b → is_same own option ≡ false
differs-if own option b true e p q = absurd (not-itself b (sym p ∙ ap takes_value (same_true the_type tt own option e) ∙ q))
differs-if own option b false e p q = e

differs : (own option : CommandOption) (b : Bool) → takes_value own ≡ b → takes_value option ≡ not b → is_same own option ≡ false
differs own option b p q = differs-if own option b (is_same own option) refl p q

-- what one more option adds to the values and to what is given
values-more : {X : Type 0} (rule : List ℕ → Result X UsageKind) (own : CommandOption) (before : List Given) (given : Given) → option_values rule own (before ++ given ∷ []) ≡ option_values rule own before ++ option_to_list (given_value rule own given)
values-more rule own before given = filter_map-append (given_value rule own) before (given ∷ []) ∙ ap (λ l. option_values rule own before ++ l) (one_option (given_value rule own given))

given-more : (own : CommandOption) (before : List Given) (given : Given) → is_given own (before ++ given ∷ []) ≡ (is_given own before || is_of own given)
given-more own before given = list_any-append (is_of own) before (given ∷ []) ∙ ap (λ b. is_given own before || b) (or-false (is_of own given))

-- an option that was given, with or without a value
abbrev taken : ℕ → CommandOption → Option Value → Given
taken word option value = record { word = word; option = Some option; value = value }

-- the slot of an option that takes a value holds what was given of it
record IsSlot {X : Type 0} (rule : List ℕ → Result X UsageKind) (own : CommandOption) (before : List Given) (slot : Option X) : Type 0 where
  values : option_values rule own before ≡ option_to_list slot
  full : is_given own before ≡ is_some slot

other-slot : {X : Type 0} (rule : List ℕ → Result X UsageKind) (own : CommandOption) (before : List Given) (slot : Option X) (given : Given) → IsSlot rule own before slot → is_of own given ≡ false → IsSlot rule own (before ++ given ∷ []) slot
other-slot rule own before slot given kept other = record {
  values = values-more rule own before given ∙ ap (λ b. option_values rule own before ++ option_to_list (cond b (value_by rule given.value) None)) other ∙ append-nil (option_values rule own before) ∙ kept.values;
  full = given-more own before given ∙ ap (λ b. is_given own before || b) other ∙ or-false (is_given own before) ∙ kept.full;
}

text_slot-if : {X : Type 0} (rule : List ℕ → Result X UsageKind) (own : CommandOption) (before : List Given) (slot : Option X) (word : ℕ) (option : CommandOption) (value : Value) → IsSlot rule own before slot → (is_same own option ≡ true → is_some slot ≡ false) → (is_same own option ≡ true → result_err (rule value.text) ≡ None) → (same : Bool) → is_same own option ≡ same → IsSlot rule own (before ++ taken word option (Some value) ∷ []) (cond same (result_ok (rule value.text)) slot)
text_slot-if rule own before slot word option value kept empty good false e = other-slot rule own before slot (taken word option (Some value)) kept e
text_slot-if rule own before slot word option value kept empty good true e =
    let none : slot ≡ None = not_some slot (empty e) in
    let nothing : option_values rule own before ≡ [] = kept.values ∙ ap option_to_list none in
    let here : given_value rule own (taken word option (Some value)) ≡ result_ok (rule value.text) = ap (λ b. cond b (result_ok (rule value.text)) None) e in
    record {
      values = values-more rule own before (taken word option (Some value)) ∙ ap (λ l. l ++ option_to_list (given_value rule own (taken word option (Some value)))) nothing ∙ ap option_to_list here;
      full = given-more own before (taken word option (Some value)) ∙ ap (λ b. is_given own before || b) e ∙ or-true (is_given own before) ∙ sym (good_there (rule value.text) (good e));
    }

-- the slot of an option behind a text that is given as the value of one that was not full, and is not refused
text_slot : {X : Type 0} (rule : List ℕ → Result X UsageKind) (own : CommandOption) (before : List Given) (slots : Slots) (slot : Option X) (word : ℕ) (option : CommandOption) (value : Value) → IsSlot rule own before slot → is_slot_full slots own ≡ is_some slot → why_refused own value.text ≡ result_err (rule value.text) → is_slot_full slots option ≡ false → why_refused option value.text ≡ None → IsSlot rule own (before ++ taken word option (Some value) ∷ []) (filled rule own option value.text slot)
text_slot rule own before slots slot word option value kept is_slot by_rule empty good =
    text_slot-if rule own before slot word option value kept
    (λ e. sym is_slot ∙ ap (is_slot_full slots) (same_true the_type tt own option e) ∙ empty)
    (λ e. sym by_rule ∙ ap (λ o. why_refused o value.text) (same_true the_type tt own option e) ∙ good)
    (is_same own option) refl

-- the slot of an option behind one that takes no value
flag_slot : {X : Type 0} (rule : List ℕ → Result X UsageKind) (own : CommandOption) (before : List Given) (slot : Option X) (word : ℕ) (option : CommandOption) (value : Option Value) → IsSlot rule own before slot → takes_value own ≡ true → takes_value option ≡ false → IsSlot rule own (before ++ taken word option value ∷ []) slot
flag_slot rule own before slot word option value kept asks asks_not = other-slot rule own before slot (taken word option value) kept (differs own option true asks asks_not)

text_list-if : {X : Type 0} (rule : List ℕ → Result X UsageKind) (own : CommandOption) (before : List Given) (list : List X) (word : ℕ) (option : CommandOption) (value : Value) → option_values rule own before ≡ list → (same : Bool) → is_same own option ≡ same → option_values rule own (before ++ taken word option (Some value) ∷ []) ≡ cond same (list ++ option_to_list (result_ok (rule value.text))) list
text_list-if rule own before list word option value kept false e =
    values-more rule own before (taken word option (Some value)) ∙ ap (λ b. option_values rule own before ++ option_to_list (cond b (result_ok (rule value.text)) None)) e ∙ append-nil (option_values rule own before) ∙ kept
text_list-if rule own before list word option value kept true e =
    values-more rule own before (taken word option (Some value)) ∙ ap (λ b. option_values rule own before ++ option_to_list (cond b (result_ok (rule value.text)) None)) e ∙ ap (λ l. l ++ option_to_list (result_ok (rule value.text))) kept

-- the list of an option behind a text that is given as the value of one
text_list : {X : Type 0} (rule : List ℕ → Result X UsageKind) (own : CommandOption) (before : List Given) (list : List X) (word : ℕ) (option : CommandOption) (value : Value) → option_values rule own before ≡ list → option_values rule own (before ++ taken word option (Some value) ∷ []) ≡ lengthened rule own option value.text list
text_list rule own before list word option value kept = text_list-if rule own before list word option value kept (is_same own option) refl

-- the list of an option behind one that takes no value
flag_list : {X : Type 0} (rule : List ℕ → Result X UsageKind) (own : CommandOption) (before : List Given) (list : List X) (word : ℕ) (option : CommandOption) (value : Option Value) → option_values rule own before ≡ list → takes_value own ≡ true → takes_value option ≡ false → option_values rule own (before ++ taken word option value ∷ []) ≡ list
flag_list rule own before list word option value kept asks asks_not =
    values-more rule own before (taken word option value) ∙ ap (λ b. option_values rule own before ++ option_to_list (cond b (value_by rule value) None)) (differs own option true asks asks_not) ∙ append-nil (option_values rule own before) ∙ kept

-- the mark of an option behind another one, of which one alone takes a value
other_mark : (own : CommandOption) (before : List Given) (mark : Bool) (word : ℕ) (option : CommandOption) (value : Option Value) (asks : Bool) → is_given own before ≡ mark → takes_value own ≡ asks → takes_value option ≡ not asks → is_given own (before ++ taken word option value ∷ []) ≡ mark
other_mark own before mark word option value asks kept own_asks other_asks =
    given-more own before (taken word option value) ∙ ap (λ b. is_given own before || b) (differs own option asks own_asks other_asks) ∙ or-false (is_given own before) ∙ kept

-- the mark of an option behind any option
more_mark : (own : CommandOption) (before : List Given) (mark : Bool) (word : ℕ) (option : CommandOption) (value : Option Value) → is_given own before ≡ mark → is_given own (before ++ taken word option value ∷ []) ≡ (is_same own option || mark)
more_mark own before mark word option value kept =
    given-more own before (taken word option value) ∙ or_comm (is_given own before) (is_same own option) ∙ ap (λ b. is_same own option || b) kept

-- the slots hold what was given before
record Keeps (before : List Given) (slots : Slots) : Type 0 where
  name : IsSlot pattern_in TestsRegex before slots.name
  not_name : IsSlot pattern_in ExcludeRegex before slots.not_name
  labels : option_values pattern_in LabelRegex before ≡ slots.labels
  not_labels : option_values pattern_in LabelExclude before ≡ slots.not_labels
  numbers : IsSlot numbers_in TestsInformation before slots.numbers
  union : is_given Union before ≡ slots.union
  keep_any : IsSlot pattern_in FixtureExcludeAny before slots.keep_any
  keep_setup : IsSlot pattern_in FixtureExcludeSetup before slots.keep_setup
  keep_cleanup : IsSlot pattern_in FixtureExcludeCleanup before slots.keep_cleanup
  level : IsSlot level_in Parallel before slots.level
  repeat : IsSlot repeat_in Repeat before slots.repeat
  dir : IsSlot text_in TestDir before slots.dir
  config : IsSlot text_in BuildConfig before slots.config
  spec_file : IsSlot text_in ResourceSpecFile before slots.spec_file
  timeout : IsSlot limit_in Timeout before slots.timeout
  empty_is_error : IsSlot is_error_in NoTests before slots.empty_is_error
  stop_on_failure : is_given StopOnFailure before ≡ slots.stop_on_failure
  show_only : is_given ShowOnly before ≡ slots.show_only
  show_json : is_given ShowOnlyAs before ≡ slots.show_json
  print_labels : is_given PrintLabels before ≡ slots.print_labels
  rerun : is_given RerunFailed before ≡ slots.rerun

keeps_nothing : Keeps [] no_slots
keeps_nothing = record {
  name = record { values = refl; full = refl };
  not_name = record { values = refl; full = refl };
  labels = refl;
  not_labels = refl;
  numbers = record { values = refl; full = refl };
  union = refl;
  keep_any = record { values = refl; full = refl };
  keep_setup = record { values = refl; full = refl };
  keep_cleanup = record { values = refl; full = refl };
  level = record { values = refl; full = refl };
  repeat = record { values = refl; full = refl };
  dir = record { values = refl; full = refl };
  config = record { values = refl; full = refl };
  spec_file = record { values = refl; full = refl };
  timeout = record { values = refl; full = refl };
  empty_is_error = record { values = refl; full = refl };
  stop_on_failure = refl;
  show_only = refl;
  show_json = refl;
  print_labels = refl;
  rerun = refl;
}

keeps_text : (before : List Given) (slots : Slots) (word : ℕ) (option : CommandOption) (value : Value) → Keeps before slots → is_slot_full slots option ≡ false → takes_value option ≡ true → why_refused option value.text ≡ None → Keeps (before ++ taken word option (Some value) ∷ []) (with_text option value.text slots)
keeps_text before slots word option value kept empty asks good = record {
  name = text_slot pattern_in TestsRegex before slots slots.name word option value kept.name refl refl empty good;
  not_name = text_slot pattern_in ExcludeRegex before slots slots.not_name word option value kept.not_name refl refl empty good;
  labels = text_list pattern_in LabelRegex before slots.labels word option value kept.labels;
  not_labels = text_list pattern_in LabelExclude before slots.not_labels word option value kept.not_labels;
  numbers = text_slot numbers_in TestsInformation before slots slots.numbers word option value kept.numbers refl refl empty good;
  union = other_mark Union before slots.union word option (Some value) false kept.union refl asks;
  keep_any = text_slot pattern_in FixtureExcludeAny before slots slots.keep_any word option value kept.keep_any refl refl empty good;
  keep_setup = text_slot pattern_in FixtureExcludeSetup before slots slots.keep_setup word option value kept.keep_setup refl refl empty good;
  keep_cleanup = text_slot pattern_in FixtureExcludeCleanup before slots slots.keep_cleanup word option value kept.keep_cleanup refl refl empty good;
  level = text_slot level_in Parallel before slots slots.level word option value kept.level refl refl empty good;
  repeat = text_slot repeat_in Repeat before slots slots.repeat word option value kept.repeat refl refl empty good;
  dir = text_slot text_in TestDir before slots slots.dir word option value kept.dir refl refl empty good;
  config = text_slot text_in BuildConfig before slots slots.config word option value kept.config refl refl empty good;
  spec_file = text_slot text_in ResourceSpecFile before slots slots.spec_file word option value kept.spec_file refl refl empty good;
  timeout = text_slot limit_in Timeout before slots slots.timeout word option value kept.timeout refl refl empty good;
  empty_is_error = text_slot is_error_in NoTests before slots slots.empty_is_error word option value kept.empty_is_error refl refl empty good;
  stop_on_failure = other_mark StopOnFailure before slots.stop_on_failure word option (Some value) false kept.stop_on_failure refl asks;
  show_only = other_mark ShowOnly before slots.show_only word option (Some value) false kept.show_only refl asks;
  show_json = more_mark ShowOnlyAs before slots.show_json word option (Some value) kept.show_json;
  print_labels = other_mark PrintLabels before slots.print_labels word option (Some value) false kept.print_labels refl asks;
  rerun = other_mark RerunFailed before slots.rerun word option (Some value) false kept.rerun refl asks;
}

keeps_flag : (before : List Given) (slots : Slots) (word : ℕ) (option : CommandOption) (value : Option Value) → Keeps before slots → takes_value option ≡ false → Keeps (before ++ taken word option value ∷ []) (with_flag option slots)
keeps_flag before slots word option value kept asks_not = record {
  name = flag_slot pattern_in TestsRegex before slots.name word option value kept.name refl asks_not;
  not_name = flag_slot pattern_in ExcludeRegex before slots.not_name word option value kept.not_name refl asks_not;
  labels = flag_list pattern_in LabelRegex before slots.labels word option value kept.labels refl asks_not;
  not_labels = flag_list pattern_in LabelExclude before slots.not_labels word option value kept.not_labels refl asks_not;
  numbers = flag_slot numbers_in TestsInformation before slots.numbers word option value kept.numbers refl asks_not;
  union = more_mark Union before slots.union word option value kept.union;
  keep_any = flag_slot pattern_in FixtureExcludeAny before slots.keep_any word option value kept.keep_any refl asks_not;
  keep_setup = flag_slot pattern_in FixtureExcludeSetup before slots.keep_setup word option value kept.keep_setup refl asks_not;
  keep_cleanup = flag_slot pattern_in FixtureExcludeCleanup before slots.keep_cleanup word option value kept.keep_cleanup refl asks_not;
  level = flag_slot level_in Parallel before slots.level word option value kept.level refl asks_not;
  repeat = flag_slot repeat_in Repeat before slots.repeat word option value kept.repeat refl asks_not;
  dir = flag_slot text_in TestDir before slots.dir word option value kept.dir refl asks_not;
  config = flag_slot text_in BuildConfig before slots.config word option value kept.config refl asks_not;
  spec_file = flag_slot text_in ResourceSpecFile before slots.spec_file word option value kept.spec_file refl asks_not;
  timeout = flag_slot limit_in Timeout before slots.timeout word option value kept.timeout refl asks_not;
  empty_is_error = flag_slot is_error_in NoTests before slots.empty_is_error word option value kept.empty_is_error refl asks_not;
  stop_on_failure = more_mark StopOnFailure before slots.stop_on_failure word option value kept.stop_on_failure;
  show_only = more_mark ShowOnly before slots.show_only word option value kept.show_only;
  show_json = other_mark ShowOnlyAs before slots.show_json word option value true kept.show_json refl asks_not;
  print_labels = more_mark PrintLabels before slots.print_labels word option value kept.print_labels;
  rerun = more_mark RerunFailed before slots.rerun word option value kept.rerun;
}

-- an option is given twice where its slot is full
twice-full : (before : List Given) (slots : Slots) (option : CommandOption) → Keeps before slots → (not (may_be_given_again option) && is_given option before) ≡ is_slot_full slots option
twice-full before slots TestsRegex kept = kept.name.full
twice-full before slots ExcludeRegex kept = kept.not_name.full
twice-full before slots LabelRegex kept = refl
twice-full before slots LabelExclude kept = refl
twice-full before slots FixtureExcludeAny kept = kept.keep_any.full
twice-full before slots FixtureExcludeSetup kept = kept.keep_setup.full
twice-full before slots FixtureExcludeCleanup kept = kept.keep_cleanup.full
twice-full before slots TestsInformation kept = kept.numbers.full
twice-full before slots Union kept = refl
twice-full before slots Parallel kept = kept.level.full
twice-full before slots BuildConfig kept = kept.config.full
twice-full before slots TestDir kept = kept.dir.full
twice-full before slots ResourceSpecFile kept = kept.spec_file.full
twice-full before slots Timeout kept = kept.timeout.full
twice-full before slots Repeat kept = kept.repeat.full
twice-full before slots NoTests kept = kept.empty_is_error.full
twice-full before slots StopOnFailure kept = refl
twice-full before slots ShowOnly kept = refl
twice-full before slots ShowOnlyAs kept = refl
twice-full before slots PrintLabels kept = refl
twice-full before slots RerunFailed kept = refl
twice-full before slots Verbosity kept = refl

slot-value : {X : Type 0} (rule : List ℕ → Result X UsageKind) (own : CommandOption) (before : List Given) (slot : Option X) → IsSlot rule own before slot → option_value rule own before ≡ slot
slot-value rule own before slot kept = ap (λ l. slice_get l 0) kept.values ∙ first_option slot

made : (before : List Given) (slots : Slots) → Keeps before slots → made_of slots ≡ invocation_of before
made before slots kept =
    let name = slot-value pattern_in TestsRegex before slots.name kept.name in
    let not_name = slot-value pattern_in ExcludeRegex before slots.not_name kept.not_name in
    let numbers = slot-value numbers_in TestsInformation before slots.numbers kept.numbers in
    let keep_any = slot-value pattern_in FixtureExcludeAny before slots.keep_any kept.keep_any in
    let keep_setup = slot-value pattern_in FixtureExcludeSetup before slots.keep_setup kept.keep_setup in
    let keep_cleanup = slot-value pattern_in FixtureExcludeCleanup before slots.keep_cleanup kept.keep_cleanup in
    let level = slot-value level_in Parallel before slots.level kept.level in
    let repeat = slot-value repeat_in Repeat before slots.repeat kept.repeat in
    let dir = slot-value text_in TestDir before slots.dir kept.dir in
    let config = slot-value text_in BuildConfig before slots.config kept.config in
    let spec_file = slot-value text_in ResourceSpecFile before slots.spec_file kept.spec_file in
    let timeout = slot-value limit_in Timeout before slots.timeout kept.timeout in
    let empty_is_error = slot-value is_error_in NoTests before slots.empty_is_error kept.empty_is_error in
    cc (kept.labels, kept.not_labels, kept.union, kept.stop_on_failure, kept.show_only, kept.show_json, kept.print_labels, kept.rerun)

-- what one more option comes to: its fault, or slots that hold it too
data Steps (before : List Given) (slots : Slots) (given : Given) : Type 0 where
  stops : (fault : UsageFault) → repeat_fault before given ≡ Some fault → after_given slots given ≡ Err fault → Steps before slots given
  goes : (next : Slots) → repeat_fault before given ≡ None → after_given slots given ≡ Ok next → Keeps (before ++ given ∷ []) next → Steps before slots given

-- of an option that is not given twice its value is asked
asked : (before : List Given) (slots : Slots) (word : ℕ) (option : CommandOption) (value : Option Value) (asks : Bool) → Keeps before slots → is_slot_full slots option ≡ false → takes_value option ≡ asks → repeat_fault before (taken word option value) ≡ cond asks (fault_of_value word option value) None
asked before slots word option value asks kept empty e =
    ap (λ b. cond b (Some (At word Twice)) (cond (takes_value option) (fault_of_value word option value) None)) (twice-full before slots option kept ∙ empty) ∙ ap (λ b. cond b (fault_of_value word option value) None) e

asked_slots : (slots : Slots) (word : ℕ) (option : CommandOption) (value : Option Value) (asks : Bool) → is_slot_full slots option ≡ false → takes_value option ≡ asks → after_given slots (taken word option value) ≡ cond asks (after_value slots word option value) (Ok (with_flag option slots))
asked_slots slots word option value asks empty e =
    ap (λ b. cond b (Err (At word Twice)) (cond (takes_value option) (after_value slots word option value) (Ok (with_flag option slots)))) empty ∙ ap (λ b. cond b (after_value slots word option value) (Ok (with_flag option slots))) e

steps-why : (before : List Given) (slots : Slots) (word : ℕ) (option : CommandOption) (value : Value) → Keeps before slots → is_slot_full slots option ≡ false → takes_value option ≡ true → (why : Option UsageKind) → why_refused option value.text ≡ why → Steps before slots (taken word option (Some value))
steps-why before slots word option value kept empty asks None good =
    goes (with_text option value.text slots)
    (asked before slots word option (Some value) true kept empty asks ∙ ap (option_map (At value.word)) good)
    (asked_slots slots word option (Some value) true empty asks ∙ ap (λ why. unless_bad why value.word (with_text option value.text slots)) good)
    (keeps_text before slots word option value kept empty asks good)
steps-why before slots word option value kept empty asks (Some kind) bad =
    stops (At value.word kind)
    (asked before slots word option (Some value) true kept empty asks ∙ ap (option_map (At value.word)) bad)
    (asked_slots slots word option (Some value) true empty asks ∙ ap (λ why. unless_bad why value.word (with_text option value.text slots)) bad)

steps-asks : (before : List Given) (slots : Slots) (word : ℕ) (option : CommandOption) (value : Option Value) → Keeps before slots → is_slot_full slots option ≡ false → (asks : Bool) → takes_value option ≡ asks → Steps before slots (taken word option value)
steps-asks before slots word option value kept empty false e =
    goes (with_flag option slots) (asked before slots word option value false kept empty e) (asked_slots slots word option value false empty e) (keeps_flag before slots word option value kept e)
steps-asks before slots word option None kept empty true e =
    stops (At word NoValue) (asked before slots word option None true kept empty e) (asked_slots slots word option None true empty e)
steps-asks before slots word option (Some value) kept empty true e =
    steps-why before slots word option value kept empty e (why_refused option value.text) refl

steps-full : (before : List Given) (slots : Slots) (word : ℕ) (option : CommandOption) (value : Option Value) → Keeps before slots → (full : Bool) → is_slot_full slots option ≡ full → Steps before slots (taken word option value)
steps-full before slots word option value kept false e = steps-asks before slots word option value kept e (takes_value option) refl
steps-full before slots word option value kept true e =
    stops (At word Twice)
    (ap (λ b. cond b (Some (At word Twice)) (cond (takes_value option) (fault_of_value word option value) None)) (twice-full before slots option kept ∙ e))
    (ap (λ b. cond b (Err (At word Twice)) (cond (takes_value option) (after_value slots word option value) (Ok (with_flag option slots)))) e)

steps-option : (before : List Given) (slots : Slots) (word : ℕ) (option : Option CommandOption) (value : Option Value) → Keeps before slots → Steps before slots (record { word = word; option = option; value = value })
steps-option before slots word None value kept = stops (At word UnknownOption) refl refl
steps-option before slots word (Some option) value kept = steps-full before slots word option value kept (is_slot_full slots option) refl

-- the answer of the reader with these slots
abbrev answer : Result Slots UsageFault → Result InvocationValue UsageFault
answer read = then_slots read (λ slots. Ok (made_of slots))

-- the reader goes on behind one more option as the definition does
behind-by : (before : List Given) (slots : Slots) (given : Given) (others : List Given) → Steps before slots given → ((next : Slots) → Keeps (before ++ given ∷ []) next → answer (slots_behind next others) ≡ unless_refused (faults_behind (before ++ given ∷ []) others) (invocation_of ((before ++ given ∷ []) ++ others))) → answer (slots_behind slots (given ∷ others)) ≡ unless_refused (faults_behind before (given ∷ others)) (invocation_of (before ++ (given ∷ others)))
behind-by before slots given others (stops fault wrong stopped) later =
    ap (λ step. answer (then_slots step (λ next. slots_behind next others))) stopped ∙ sym (ap (λ o. unless_refused (option_to_list o ++ faults_behind (before ++ given ∷ []) others) (invocation_of (before ++ (given ∷ others)))) wrong)
behind-by before slots given others (goes next right went kept) later =
    ap (λ step. answer (then_slots step (λ next. slots_behind next others))) went ∙ later next kept ∙ ap (λ all. unless_refused (faults_behind (before ++ given ∷ []) others) (invocation_of all)) (append_assoc before (given ∷ []) others) ∙ sym (ap (λ o. unless_refused (option_to_list o ++ faults_behind (before ++ given ∷ []) others) (invocation_of (before ++ (given ∷ others)))) right)

behind : (before : List Given) (slots : Slots) → Keeps before slots → (given : List Given) → answer (slots_behind slots given) ≡ unless_refused (faults_behind before given) (invocation_of (before ++ given))
behind before slots kept [] = ap Ok (made before slots kept ∙ ap invocation_of (sym (append-nil before)))
behind before slots kept (given ∷ others) =
    behind-by before slots given others (steps-option before slots given.word given.option given.value kept) (λ next keeps. behind (before ++ given ∷ []) next keeps others)

reading : (words : List (List ℕ)) → answer (slots_behind no_slots (options_in words)) ≡ invocation_in words
reading words = behind [] no_slots keeps_nothing (options_in words)

-- the invocation that the slots make is what the words ask for
pub reads_words : (words : List (List ℕ)) (slots : Slots) (invocation : InvocationValue) → slots_behind no_slots (options_in words) ≡ Ok slots → invocation ≡ made_of slots → invocation_in words ≡ Ok invocation
reads_words words slots invocation read is = sym (reading words) ∙ ap answer read ∙ ap Ok (sym is)

-- the fault of the reader is the first fault of the words
pub refuses_words : (words : List (List ℕ)) (fault : UsageFault) → IsFirstFault (slots_behind no_slots (options_in words)) fault → IsFirstFault (invocation_in words) fault
refuses_words words NoMemory first = first
refuses_words words (At word kind) first = sym (reading words) ∙ ap answer first
