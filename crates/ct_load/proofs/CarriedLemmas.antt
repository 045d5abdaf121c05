-- The commands of a load are carried out, and define its tests.
use Rattle.std.proofs.Common.{◌≡◌, ◌∙◌, sym, ap, refl, ℕ, ◌+◌, ◌-◌, ◌*◌, ◌%◌, ◌<◌, ◌≤◌, ◌^◌, Bool, true, false, cond, ◌&&◌, ◌||◌, ◌==◌, zero, suc, List, [], ◌∷◌, ◌++◌, length, map, arith, append_assoc, decimal}
use Rattle.std.specs.Prelude.{drop, Option, Some, None, Result, Ok, Err, codes, bytes_eq, count_by, filter, nat_le, nat_lt}
use Rattle.std.specs.List.{AllByRecursion, list_any, range_with_len}
use Rattle.std.specs.Str.Parse.{AllDigits}
use Rattle.std.proofs.lemmas.Bool.{ne_eqb}
use Rattle.std.proofs.lemmas.Bool.Decides.{nat_tests}
use Rattle.std.proofs.lemmas.List.{append-nil, length-append}
use Rattle.std.proofs.lemmas.List.Sums.{sum_by-cons}
use Rattle.std.proofs.lemmas.Fmt.{decimal_is_IsNumeral, decimal_injective, length-decimal-le}
use Rattle.std.proofs.lemmas.Slice.Eq.{bytes_eq-Decides}
use Rattle.std.proofs.lemmas.Str.Parse.{digit_from_value}
use Rattle.ct_base.specs.Entries.{entries_of, is_entry, parts_of, parts_with, with_front}
use Rattle.ct_base.specs.declared.defs.Pair.{Pair}
use Rattle.ct_base.specs.declared.defs.TestDef.{TestDef}
use Rattle.ct_base.specs.Outside.{Held}
use Rattle.ct_base.proofs.NameLemmas.{bytes_eq-refl}
use Rattle.ct_lex.specs.declared.call.Arg.{Arg}
use Rattle.ct_lex.specs.declared.call.Call.{Call}
use Rattle.ct_suite.specs.Values.{Variable, bare, is_too_long, quoted, size, texts, values_of}
use Rattle.ct_suite.specs.Words.{names_and_pairs}
use Rattle.ct_suite.specs.Tests.{each_where, has_name_of, new_test, prop_bytes, taking_props, with_props}
use Rattle.ct_suite.specs.declared.value.Value.{Value}
use Rattle.ct_testfile.specs.Commands.{add_test, begun, command_of, evaluated, is_bad_name, carried_out, openings, performed, set_tests_properties, taken, test_file, no_files}
use Rattle.ct_testfile.specs.Limits.{tree_limits}
use Rattle.ct_testfile.specs.Outcome.{◌>>=◌, on_line, or_refused}
use Rattle.ct_testfile.specs.Tree.{FileReading, all_opened, beginning_with, behind_call, carried}
use Rattle.ct_testfile.specs.declared.fault.ReadFault.{ReadFault}
use Rattle.ct_testfile.specs.declared.fault.ReadKind.{ReadKind}
use Rattle.ct_testfile.specs.declared.fault.ReadKind.TheVariants.{BadCall, TooLong, TooManyCommands, TooManyTests}
use Rattle.ct_testfile.specs.Ifs.{is_live, left}
use Rattle.ct_load.specs.Tree.{load_test_name}
use Rattle.ct_load.proofs.TreeCommands.{add_call, bare_arg, depends_args, lock_args, line_after, properties_call, quoted_arg, test_calls}
use Rattle.ct_load.proofs.TreeTests.{load_def}

-- types that ct_testfile does not hand up: the state of a reading, the open ifs, a step
abbrev type_of : {A : Type 0} → A → Type 0
type_of {A} value = A

abbrev domain_of : {A B : Type 0} → (A → B) → Type 0
domain_of {A} {B} function = A

abbrev result_of : {A E : Type 0} → Result A E → Type 0
result_of {A} {E} result = A

abbrev pub State : Type 0
State = type_of (beginning_with [])

abbrev Opens : Type 0
Opens = domain_of (openings [])

abbrev pub TestFile : Type 0
TestFile = type_of (test_file [])

abbrev OpenIfs : Type 0
OpenIfs = domain_of is_live

abbrev Step : Type 0
Step = result_of (left [] (beginning_with []))

abbrev pub kind_ok : {A : Type 0} → A → Result A ReadKind
kind_ok value = Ok value

abbrev pub fault_ok : {A : Type 0} → A → Result A ReadFault
fault_ok value = Ok value

-- a text of digits has one part
digits_parts : (ds : List ℕ) → AllDigits 10 ds → parts_of ds ≡ ds ∷ []
digits_parts [] digits = refl
digits_parts (d ∷ []) digits =
    let digit = digit_from_value d digits.0 in
    let other : (d == 59) ≡ false = ne_eqb d 59 (λ e. omega (arith, digit.1, e)) in
    ap (λ (b : Bool). cond b ([] ∷ [] ∷ []) ((d ∷ []) ∷ [])) other
digits_parts (d ∷ next ∷ ds) digits =
    let digit = digit_from_value d digits.0 in
    let later : List (List ℕ) = parts_of (next ∷ ds) in
    let escape : (d == 92) ≡ false = ne_eqb d 92 (λ e. omega (arith, digit.1, e)) in
    let other : (d == 59) ≡ false = ne_eqb d 59 (λ e. omega (arith, digit.1, e)) in
    ap (λ (b : Bool). cond (b && (next == 59)) (with_front (59 ∷ []) (parts_of ds)) (parts_with d later)) escape
    ∙ ap (λ (b : Bool). cond b ([] ∷ later) (with_front (d ∷ []) later)) other
    ∙ ap (with_front (d ∷ [])) (digits_parts (next ∷ ds) digits.1)

name_parts : (ds : List ℕ) → AllDigits 10 ds → parts_of (116 ∷ ds) ≡ (116 ∷ ds) ∷ []
name_parts [] digits = refl
name_parts (d ∷ ds) digits = ap (with_front (116 ∷ [])) (digits_parts (d ∷ ds) digits)

-- the name of a test is one entry
pub name_entries : (n : ℕ) → n < 2 ^ 64 → entries_of (load_test_name n) ≡ load_test_name n ∷ []
name_entries n small = ap (filter is_entry) (name_parts (decimal n) (decimal_is_IsNumeral n small).0.1)

-- the name of a test has no line feed
digits_on_line : (ds : List ℕ) → AllDigits 10 ds → list_any (λ (byte : ℕ). byte == 10) ds ≡ false
digits_on_line [] digits = refl
digits_on_line (d ∷ ds) digits =
    let digit = digit_from_value d digits.0 in
    ap (λ (b : Bool). b || list_any (λ (byte : ℕ). byte == 10) ds) (ne_eqb d 10 (λ e. omega (arith, digit.0, e))) ∙ digits_on_line ds digits.1

-- tests have other names where they have other numbers
pub other_name : (m n : ℕ) → m < 2 ^ 64 → n < 2 ^ 64 → m < n → bytes_eq (load_test_name m) (load_test_name n) ≡ false
other_name m n small few less = other (bytes_eq (load_test_name m) (load_test_name n)) refl
  where
    other : (b : Bool) → bytes_eq (load_test_name m) (load_test_name n) ≡ b → b ≡ false
    other false is = refl
    other true is =
        let same : load_test_name m ≡ load_test_name n = (bytes_eq-Decides (load_test_name m) (load_test_name n)).0 is in
        let equal : m ≡ n = decimal_injective m n small few (ap (λ (t : List ℕ). drop 1 t) same) in
        absurd (omega (arith, less, equal))

-- values of arguments
bare_value : (vs : List Variable) (text : List ℕ) (args : List Arg) → entries_of text ≡ text ∷ [] → values_of vs (bare_arg text ∷ args) ≡ bare text ∷ values_of vs args
bare_value vs text args one =
    ap (λ (t : List ℕ). map bare (entries_of t) ++ values_of vs args) (append-nil text) ∙ ap (λ (es : List (List ℕ)). map bare es ++ values_of vs args) one

quoted_value : (vs : List Variable) (text : List ℕ) (args : List Arg) → values_of vs (quoted_arg text ∷ args) ≡ quoted text ∷ values_of vs args
quoted_value vs text args = ap (λ (t : List ℕ). quoted t ∷ values_of vs args) (append-nil text)

-- the values of the commands of a test
abbrev add_values : ℕ → List Value
add_values n = bare (load_test_name n) ∷ quoted (codes "true") ∷ []

abbrev some_values : Bool → List ℕ → List ℕ → List Value
some_values b key value = cond b (bare key ∷ quoted value ∷ []) []

abbrev pub lock_value : ℕ → List ℕ
lock_value n = codes "l" ++ decimal (n % 5)

abbrev more_values : Bool → Bool → ℕ → List Value
more_values waits locks n = some_values waits (codes "DEPENDS") (load_test_name (n - 1)) ++ some_values locks (codes "RESOURCE_LOCK") (lock_value n)

abbrev own_values : Bool → Bool → ℕ → List Value
own_values waits locks n =
    bare (load_test_name n) ∷ bare (codes "PROPERTIES") ∷ bare (codes "PROCESSORS") ∷ quoted (decimal (1 + n % 3))
    ∷ bare (codes "COST") ∷ quoted (decimal (n % 7)) ∷ more_values waits locks n

abbrev more_args : Bool → Bool → ℕ → List Arg
more_args waits locks n =
    cond waits (bare_arg (codes "DEPENDS") ∷ quoted_arg (load_test_name (n - 1)) ∷ []) []
    ++ cond locks (bare_arg (codes "RESOURCE_LOCK") ∷ quoted_arg (lock_value n) ∷ []) []

more_are : (waits locks : Bool) (n : ℕ) (vs : List Variable) → values_of vs (more_args waits locks n) ≡ more_values waits locks n
more_are true true n vs =
    ap (λ (rest : List Value). bare (codes "DEPENDS") ∷ rest) (quoted_value vs (load_test_name (n - 1)) (bare_arg (codes "RESOURCE_LOCK") ∷ quoted_arg (lock_value n) ∷ []))
    ∙ ap (λ (rest : List Value). bare (codes "DEPENDS") ∷ quoted (load_test_name (n - 1)) ∷ bare (codes "RESOURCE_LOCK") ∷ rest) (quoted_value vs (lock_value n) [])
more_are true false n vs = ap (λ (rest : List Value). bare (codes "DEPENDS") ∷ rest) (quoted_value vs (load_test_name (n - 1)) [])
more_are false true n vs = ap (λ (rest : List Value). bare (codes "RESOURCE_LOCK") ∷ rest) (quoted_value vs (lock_value n) [])
more_are false false n vs = refl

add_are : (n : ℕ) (vs : List Variable) → n < 2 ^ 64 → values_of vs (bare_arg (load_test_name n) ∷ quoted_arg (codes "true") ∷ []) ≡ add_values n
add_are n vs small = bare_value vs (load_test_name n) (quoted_arg (codes "true") ∷ []) (name_entries n small)

own_are : (line n : ℕ) (vs : List Variable) → n < 2 ^ 64 → values_of vs (properties_call line n).args ≡ own_values (n % 10 == 0) (n % 4 == 0) n
own_are line n vs small =
    let more : List Arg = depends_args n ++ lock_args n in
    let a : List ℕ = decimal (1 + n % 3) in
    let b : List ℕ = decimal (n % 7) in
    bare_value vs (load_test_name n) (bare_arg (codes "PROPERTIES") ∷ bare_arg (codes "PROCESSORS") ∷ quoted_arg a ∷ bare_arg (codes "COST") ∷ quoted_arg b ∷ more) (name_entries n small)
    ∙ ap (λ (rest : List Value). bare (load_test_name n) ∷ bare (codes "PROPERTIES") ∷ bare (codes "PROCESSORS") ∷ rest) (quoted_value vs a (bare_arg (codes "COST") ∷ quoted_arg b ∷ more))
    ∙ ap (λ (rest : List Value). bare (load_test_name n) ∷ bare (codes "PROPERTIES") ∷ bare (codes "PROCESSORS") ∷ quoted a ∷ bare (codes "COST") ∷ rest) (quoted_value vs b more)
    ∙ ap (λ (rest : List Value). bare (load_test_name n) ∷ bare (codes "PROPERTIES") ∷ bare (codes "PROCESSORS") ∷ quoted a ∷ bare (codes "COST") ∷ quoted b ∷ rest) (more_are (n % 10 == 0) (n % 4 == 0) n vs)

-- names and pairs
abbrev pub some_pairs : Bool → List ℕ → List ℕ → List Pair
some_pairs b key value = cond b (record { name = key; value = value } ∷ []) []

abbrev pub own_pairs : Bool → Bool → ℕ → List Pair
own_pairs waits locks n =
    record { name = codes "PROCESSORS"; value = decimal (1 + n % 3) } ∷ record { name = codes "COST"; value = decimal (n % 7) }
    ∷ (some_pairs waits (codes "DEPENDS") (load_test_name (n - 1)) ++ some_pairs locks (codes "RESOURCE_LOCK") (lock_value n))

read_pairs : (waits locks : Bool) (n : ℕ) → names_and_pairs (texts (own_values waits locks n)) ≡ Some (load_test_name n ∷ [], own_pairs waits locks n)
read_pairs true true n = refl
read_pairs true false n = refl
read_pairs false true n = refl
read_pairs false false n = refl

kept_pairs : (waits locks : Bool) (n : ℕ) → with_props [] (own_pairs waits locks n) ≡ own_pairs waits locks n
kept_pairs true true n = refl
kept_pairs true false n = refl
kept_pairs false true n = refl
kept_pairs false false n = refl

-- a number that is not above another one
pub not_above : (most n : ℕ) → n ≤ most → nat_lt most n ≡ false
not_above most n within = grind (arith, nat_tests)

-- how long names and numbers are
pub number_length : (n : ℕ) → n ≤ 100000 → length (decimal n) ≤ 6
number_length n few = length-decimal-le 6 n (omega arith) (omega (arith, few)) (omega (arith, few))

-- each value of few bytes is short
short_values : (most : ℕ) (values : List Value) → size values ≤ most → list_any (is_too_long most) values ≡ false
short_values most [] within = refl
short_values most (value ∷ values) within =
    let all : size (value ∷ values) ≡ length value.text + size values = sum_by-cons (λ (v : Value). length v.text) value values in
    let here : length value.text ≤ most = omega (arith, all, within) in
    ap (λ (b : Bool). b || list_any (is_too_long most) values) (not_above most (length value.text) here) ∙ short_values most values (omega (arith, all, within))

add_size : (n : ℕ) → n ≤ 100000 → size (add_values n) ≤ 11
add_size n few = omega (arith, number_length n few)

own_size : (waits locks : Bool) (n : ℕ) → n ≤ 100000 → size (own_values waits locks n) ≤ 80
own_size true true n few = omega (arith, number_length n few, number_length (n - 1) (omega (arith, few)), number_length (1 + n % 3) (omega arith), number_length (n % 7) (omega arith), number_length (n % 5) (omega arith))
own_size true false n few = omega (arith, number_length n few, number_length (n - 1) (omega (arith, few)), number_length (1 + n % 3) (omega arith), number_length (n % 7) (omega arith))
own_size false true n few = omega (arith, number_length n few, number_length (1 + n % 3) (omega arith), number_length (n % 7) (omega arith), number_length (n % 5) (omega arith))
own_size false false n few = omega (arith, number_length n few, number_length (1 + n % 3) (omega arith), number_length (n % 7) (omega arith))

own_bytes : (waits locks : Bool) (n : ℕ) → n ≤ 100000 → prop_bytes (own_pairs waits locks n) ≤ 30
own_bytes true true n few = omega (arith, number_length (n - 1) (omega (arith, few)), number_length (1 + n % 3) (omega arith), number_length (n % 7) (omega arith), number_length (n % 5) (omega arith))
own_bytes true false n few = omega (arith, number_length (n - 1) (omega (arith, few)), number_length (1 + n % 3) (omega arith), number_length (n % 7) (omega arith))
own_bytes false true n few = omega (arith, number_length (1 + n % 3) (omega arith), number_length (n % 7) (omega arith), number_length (n % 5) (omega arith))
own_bytes false false n few = omega (arith, number_length (1 + n % 3) (omega arith), number_length (n % 7) (omega arith))

-- a command begins
abbrev begun_state : State → List Value → State
begun_state state values = record state { commands = state.commands + 1; value_bytes = state.value_bytes + size values }

taken_as : (bytes : ℕ) (state : State) → state.value_bytes + bytes ≤ 536870912 → taken tree_limits bytes state ≡ Ok (record state { value_bytes = state.value_bytes + bytes })
taken_as bytes state within =
    ap (λ (b : Bool). or_refused (cond b None (Some (state.value_bytes + bytes))) TooLong >>= λ (n : ℕ). kind_ok (record state { value_bytes = n })) (not_above 536870912 (state.value_bytes + bytes) within)

begun_as : (args : List Arg) (values : List Value) (state : State) → values_of state.variables args ≡ values → size values ≤ 1048576 → state.commands + 1 ≤ 4000000 → state.value_bytes + size values ≤ 536870912 → begun tree_limits args state ≡ Ok (values, begun_state state values)
begun_as args values state are small commands bytes =
    let counted : State = record state { commands = state.commands + 1 } in
    ap (λ (b : Bool). (or_refused (cond b None (Some (state.commands + 1))) TooManyCommands >>= λ (n : ℕ). kind_ok (record state { commands = n })) >>= evaluated tree_limits (values_of state.variables args)) (not_above 4000000 (state.commands + 1) commands)
    ∙ ap (λ (vs : List Value). evaluated tree_limits vs counted) are
    ∙ ap (λ (b : Bool). cond b (Err TooLong) (taken tree_limits (size values) counted >>= λ (next : State). kind_ok (values, next))) (short_values 1048576 values small)
    ∙ ap (λ (r : Result State ReadKind). r >>= λ (next : State). kind_ok (values, next)) (taken_as (size values) counted bytes)

abbrev step_of : State → Opens → Step
step_of state opens = record { ifs = []; state = state; opens = opens }

-- what a command that is carried out comes to in a file
abbrev around : FileReading → Held → TestFile → ℕ → Result (State × Opens) ReadKind → Result (OpenIfs × State) ReadFault
around read held file line done =
    on_line file.path line (done >>= λ next. kind_ok (step_of next.0 next.1)) >>= λ step.
    all_opened read held file.path line (openings file.dir step.opens) step.state >>= λ next.
    fault_ok (step.ifs, next)

-- the state behind the command that adds a test
abbrev added : State → ℕ → State
added state n =
    record (begun_state state (add_values n)) {
      value_bytes = state.value_bytes + size (add_values n) + 1;
      tests = state.tests ++ new_test (codes ".") (load_test_name n) (codes "true" ∷ []) ∷ [];
    }

name_good : (n : ℕ) → n < 2 ^ 64 → is_bad_name (load_test_name n) ≡ false
name_good n small =
    ap (λ (b : Bool). b || list_any (λ (byte : ℕ). byte == 10) (load_test_name n)) (ne_eqb (length (load_test_name n)) 0 (λ e. omega (arith, e)))
    ∙ digits_on_line (decimal n) (decimal_is_IsNumeral n small).0.1

add_as : (n : ℕ) (state : State) → n < 2 ^ 64 → length state.tests < 400000 → state.value_bytes + 1 ≤ 536870912 → add_test tree_limits (codes ".") (texts (add_values n)) state ≡ Ok (record state { value_bytes = state.value_bytes + 1; tests = state.tests ++ new_test (codes ".") (load_test_name n) (codes "true" ∷ []) ∷ [] })
add_as n state small few bytes =
    let name : List ℕ = load_test_name n in
    let full : nat_le 400000 (length state.tests) ≡ false = grind (arith, nat_tests) in
    let more : Result State ReadKind = taken tree_limits 1 state >>= λ (next : State). kind_ok (record next { tests = next.tests ++ new_test (codes ".") name (codes "true" ∷ []) ∷ [] }) in
    ap (λ (b : Bool). cond b (Err BadCall) (cond (nat_le 400000 (length state.tests)) (Err TooManyTests) more)) (name_good n small)
    ∙ ap (λ (b : Bool). cond b (Err TooManyTests) more) full
    ∙ ap (λ (r : Result State ReadKind). r >>= λ (next : State). kind_ok (record next { tests = next.tests ++ new_test (codes ".") name (codes "true" ∷ []) ∷ [] })) (taken_as 1 state bytes)

behind_add : (read : FileReading) (held : Held) (path : List ℕ) (line n : ℕ) (state : State) → n ≤ 100000 → state.commands + 1 ≤ 4000000 → state.value_bytes + 12 ≤ 536870912 → length state.tests < 400000 → behind_call read tree_limits held (record { path = path; dir = codes "." }) [] state (add_call line n) ≡ Ok ([], added state n)
behind_add read held path line n state few commands bytes tests =
    let small : n < 2 ^ 64 = omega (arith, few) in
    let size_few = add_size n few in
    let args : List Arg = (add_call line n).args in
    let file : TestFile = record { path = path; dir = codes "." } in
    let begins = begun_as args (add_values n) state (add_are n state.variables small) (omega (arith, size_few)) commands (omega (arith, size_few, bytes)) in
    let done : carried_out tree_limits (codes ".") (command_of (codes "add_test")) args state ≡ Ok (added state n, no_files) =
    ap (λ (r : Result (List Value × State) ReadKind). r >>= λ read. performed tree_limits (codes ".") (command_of (codes "add_test")) (texts read.0) read.1) begins
    ∙ ap (λ (r : Result State ReadKind). r >>= λ (next : State). kind_ok (next, no_files)) (add_as n (begun_state state (add_values n)) small tests (omega (arith, size_few, bytes))) in
    ap (around read held file line) done

-- a list without a test of a name, and one more test of that name
module _ (p : TestDef → Bool) (test : TestDef) (yes : p test ≡ true) where
  one_more : (xs : List TestDef) → AllByRecursion (λ t. p t ≡ false) xs → count_by p (xs ++ test ∷ []) ≡ 1
  one_more [] none = sum_by-cons (λ (t : TestDef). cond (p t) 1 0) test [] ∙ ap (λ (b : Bool). cond b 1 0 + 0) yes
  one_more (x ∷ xs) none =
      let all : count_by p (x ∷ (xs ++ test ∷ [])) ≡ 0 + count_by p (xs ++ test ∷ []) =
      sum_by-cons (λ (t : TestDef). cond (p t) 1 0) x (xs ++ test ∷ []) ∙ ap (λ (b : Bool). cond b 1 0 + count_by p (xs ++ test ∷ [])) none.0 in
      omega (arith, all, one_more xs none.1)

  last_changed : (change : TestDef → TestDef) (xs : List TestDef) → AllByRecursion (λ t. p t ≡ false) xs → each_where p change (xs ++ test ∷ []) ≡ xs ++ change test ∷ []
  last_changed change [] none = ap (λ (b : Bool). cond b (change test) test ∷ []) yes
  last_changed change (x ∷ xs) none =
      ap (λ (b : Bool). cond b (change x) x ∷ each_where p change (xs ++ test ∷ [])) none.0 ∙ ap (λ (ts : List TestDef). x ∷ ts) (last_changed change xs none.1)

all_more : (P : TestDef → Type 0) (xs : List TestDef) (test : TestDef) → AllByRecursion P xs → P test → AllByRecursion P (xs ++ test ∷ [])
all_more P [] test all one = (one, tt)
all_more P (x ∷ xs) test all one = (all.0, all_more P xs test all.1 one)

-- the tests have other names than each test from this number on
abbrev IsNew : ℕ → TestDef → Type 0
IsNew n test = has_name_of (load_test_name n ∷ []) test ≡ false

abbrev AreBefore : ℕ → List TestDef → Type 0
AreBefore first tests = (n : ℕ) → first ≤ n → n ≤ 100000 → AllByRecursion (IsNew n) tests

-- the new test, and all its properties
abbrev bare_test : ℕ → TestDef
bare_test n = new_test (codes ".") (load_test_name n) (codes "true" ∷ [])

abbrev pairs_at : ℕ → List Pair
pairs_at n = own_pairs (n % 10 == 0) (n % 4 == 0) n

abbrev values_at : ℕ → List Value
values_at n = own_values (n % 10 == 0) (n % 4 == 0) n

set_as : (n : ℕ) (state : State) (old : List TestDef) → state.tests ≡ old ++ bare_test n ∷ [] → AllByRecursion (IsNew n) old → state.value_bytes + 1 * prop_bytes (pairs_at n) ≤ 536870912 → set_tests_properties tree_limits (texts (values_at n)) state ≡ Ok (record state { value_bytes = state.value_bytes + 1 * prop_bytes (pairs_at n); tests = old ++ load_def n ∷ [] })
set_as n state old tests none bytes =
    let named : TestDef → Bool = has_name_of (load_test_name n ∷ []) in
    let yes : named (bare_test n) ≡ true = ap (λ (b : Bool). b || false) (bytes_eq-refl (load_test_name n)) in
    let one : count_by named state.tests ≡ 1 = ap (count_by named) tests ∙ one_more named (bare_test n) yes old none in
    let kept : taking_props (pairs_at n) (bare_test n) ≡ load_def n = ap (λ (ps : List Pair). record (bare_test n) { props = ps }) (kept_pairs (n % 10 == 0) (n % 4 == 0) n) in
    let made : each_where named (taking_props (pairs_at n)) state.tests ≡ old ++ load_def n ∷ [] =
    ap (each_where named (taking_props (pairs_at n))) tests ∙ last_changed named (bare_test n) yes (taking_props (pairs_at n)) old none ∙ ap (λ (t : TestDef). old ++ t ∷ []) kept in
    ap (λ (o : Option (List (List ℕ) × List Pair)). or_refused o BadCall >>= λ read.
    taken tree_limits (count_by (has_name_of read.0) state.tests * prop_bytes read.1) state >>= λ (next : State).
    kind_ok (record next { tests = each_where (has_name_of read.0) (taking_props read.1) next.tests })) (read_pairs (n % 10 == 0) (n % 4 == 0) n)
    ∙ ap (λ (c : ℕ). taken tree_limits (c * prop_bytes (pairs_at n)) state >>= λ (next : State). kind_ok (record next { tests = each_where named (taking_props (pairs_at n)) next.tests })) one
    ∙ ap (λ (r : Result State ReadKind). r >>= λ (next : State). kind_ok (record next { tests = each_where named (taking_props (pairs_at n)) next.tests })) (taken_as (1 * prop_bytes (pairs_at n)) state bytes)
    ∙ ap (λ (ts : List TestDef). kind_ok (record state { value_bytes = state.value_bytes + 1 * prop_bytes (pairs_at n); tests = ts })) made

-- the state behind the command that sets the properties of a test
abbrev owned : State → List TestDef → ℕ → State
owned state old n =
    record (begun_state state (values_at n)) {
      value_bytes = state.value_bytes + size (values_at n) + 1 * prop_bytes (pairs_at n);
      tests = old ++ load_def n ∷ [];
    }

behind_own : (read : FileReading) (held : Held) (path : List ℕ) (line n : ℕ) (state : State) (old : List TestDef) → n ≤ 100000 → state.commands + 1 ≤ 4000000 → state.value_bytes + 110 ≤ 536870912 → state.tests ≡ old ++ bare_test n ∷ [] → AllByRecursion (IsNew n) old → behind_call read tree_limits held (record { path = path; dir = codes "." }) [] state (properties_call line n) ≡ Ok ([], owned state old n)
behind_own read held path line n state old few commands bytes tests none =
    let small : n < 2 ^ 64 = omega (arith, few) in
    let size_few = own_size (n % 10 == 0) (n % 4 == 0) n few in
    let bytes_few = own_bytes (n % 10 == 0) (n % 4 == 0) n few in
    let args : List Arg = (properties_call line n).args in
    let file : TestFile = record { path = path; dir = codes "." } in
    let begins = begun_as args (values_at n) state (own_are line n state.variables small) (omega (arith, size_few)) commands (omega (arith, size_few, bytes)) in
    let done : carried_out tree_limits (codes ".") (command_of (codes "set_tests_properties")) args state ≡ Ok (owned state old n, no_files) =
    ap (λ (r : Result (List Value × State) ReadKind). r >>= λ read. performed tree_limits (codes ".") (command_of (codes "set_tests_properties")) (texts read.0) read.1) begins
    ∙ ap (λ (r : Result State ReadKind). r >>= λ (next : State). kind_ok (next, no_files)) (set_as n (begun_state state (values_at n)) old tests none (omega (arith, size_few, bytes_few, bytes))) in
    ap (around read held file line) done

-- the commands are carried out to their end, and these tests are defined
pub record CarriesTo (read : FileReading) (held : Held) (path : List ℕ) (state : State) (calls : List Call) (defs : List TestDef) : Type 0 where
  pub end : State
  pub is : carried read tree_limits held (record { path = path; dir = codes "." }) [] state calls None ≡ Ok end
  pub tests : end.tests ≡ state.tests ++ defs

pub carry : (read : FileReading) (held : Held) (path : List ℕ) (count first line : ℕ) (state : State) → first + count ≤ 100001 → state.commands + 2 * count ≤ 4000000 → state.value_bytes + 130 * count ≤ 536870912 → length state.tests + count ≤ 400000 → AreBefore first state.tests → CarriesTo read held path state (test_calls line (range_with_len first count)) (map load_def (range_with_len first count))
carry read held path zero first line state few commands bytes tests none = record { end = state; is = refl; tests = sym (append-nil state.tests) }
carry read held path (suc count) first line state few commands bytes tests none =
    let own_few : first ≤ 100000 = omega (arith, few) in
    let file : TestFile = record { path = path; dir = codes "." } in
    let add : Call = add_call line first in
    let own : Call = properties_call (line_after add) first in
    let calls : List Call = test_calls (line_after own) (range_with_len (first + 1) count) in
    let one : State = added state first in
    let two : State = owned one state.tests first in
    let size_add = add_size first own_few in
    let size_few = own_size (first % 10 == 0) (first % 4 == 0) first own_few in
    let bytes_few = own_bytes (first % 10 == 0) (first % 4 == 0) first own_few in
    let begins = behind_add read held path line first state own_few (omega (arith, commands)) (omega (arith, bytes)) (omega (arith, tests)) in
    let owns = behind_own read held path (line_after add) first one state.tests own_few (omega (arith, commands)) (omega (arith, bytes, size_add)) refl (none first (omega arith) own_few) in
    let before : AreBefore (first + 1) two.tests = λ n from to.
    all_more (IsNew n) state.tests (load_def first) (none n (omega (arith, from)) to) (ap (λ (b : Bool). b || false) (other_name first n (omega (arith, own_few)) (omega (arith, to)) (omega (arith, from)))) in
    let longer : length two.tests ≡ length state.tests + 1 = length-append state.tests (load_def first ∷ []) in
    let later = carry read held path count (first + 1) (line_after own) two (omega (arith, few)) (omega (arith, commands)) (omega (arith, bytes, size_add, size_few, bytes_few)) (omega (arith, tests, longer)) before in
    record {
      end = later.end;
      is = ap (λ (r : Result (OpenIfs × State) ReadFault). r >>= λ next. carried read tree_limits held file next.0 next.1 (own ∷ calls) None) begins
          ∙ ap (λ (r : Result (OpenIfs × State) ReadFault). r >>= λ next. carried read tree_limits held file next.0 next.1 calls None) owns
          ∙ later.is;
      tests = later.tests ∙ append_assoc state.tests (load_def first ∷ []) (map load_def (range_with_len (first + 1) count));
    }
