-- The properties of the tests of a load are read, and none is refused.
use Rattle.std.proofs.Common.{◌≡◌, ◌∙◌, sym, ap, refl, ℕ, ◌+◌, ◌-◌, ◌*◌, ◌%◌, ◌<◌, ◌≤◌, ◌^◌, Bool, true, false, cond, ◌==◌, zero, suc, List, [], ◌∷◌, ◌++◌, map, arith, decimal}
use Rattle.std.specs.Prelude.{Option, Some, None, Result, Ok, bytes_eq, codes, find, option_map}
use Rattle.std.specs.List.{range_with_len}
use Rattle.std.proofs.lemmas.Fmt.{decimal_digit}
use Rattle.std.proofs.lemmas.List.{append-nil}
use Rattle.ct_base.specs.Entries.{entries_of}
use Rattle.ct_base.specs.declared.defs.TestDef.{TestDef}
use Rattle.ct_groups.specs.GroupsIn.{no_groups}
use Rattle.ct_base.specs.Names.{each_once}
use Rattle.ct_base.specs.Path.{joined}
use Rattle.ct_base.specs.declared.defs.Pair.{Pair}
use Rattle.ct_regex.specs.Tree.{Tree}
use Rattle.ct_props.specs.PropsOf.{HasProps, working_dir_of}
use Rattle.ct_props.specs.Values.{is_true_text, or_empty, patterns_in, processors_in, resource_groups_in, seconds_in, skip_code_in, text_of_key, value_of_key, working_dir_in}
use Rattle.ct_props.specs.declared.fault.PropKind.{PropKind}
use Rattle.ct_props.specs.declared.props.Props.{Props}
use Rattle.ct_plan.specs.Source.{HaveProps}
use Rattle.ct_load.specs.Tree.{load_test_name}
use Rattle.ct_load.proofs.TreeTests.{load_def}
use Rattle.ct_load.proofs.CarriedLemmas.{lock_value, name_entries, own_pairs, some_pairs}

-- the properties of a test that waits for another one, or not, and holds a lock, or not
abbrev pub own_by : Bool → Bool → ℕ → Props
own_by waits locks n = record {
  depends = cond waits (load_test_name (n - 1) ∷ []) [];
  setup = [];
  required = [];
  cleanup = [];
  disabled = false;
  processors = 1 + n % 3;
  locks = cond locks (lock_value n ∷ []) [];
  shared = [];
  serial = false;
  fail = [];
  pass = [];
  skip = [];
  skip_code = None;
  will_fail = false;
  timeout = None;
  cost = Some (1000000 * (n % 7));
  environment = [];
  modification = [];
  required_files = [];
  labels = [];
  working_dir = codes ".";
  groups = no_groups;
}

-- the properties of a test of a load
abbrev pub load_own : ℕ → Props
load_own n = own_by (n % 10 == 0) (n % 4 == 0) n

processors_of : (m : ℕ) → m < 3 → processors_in (Some (decimal (1 + m))) ≡ Ok (1 + m)
processors_of zero less = ap (λ (ds : List ℕ). processors_in (Some ds)) (decimal_digit 1 (omega arith))
processors_of (suc zero) less = ap (λ (ds : List ℕ). processors_in (Some ds)) (decimal_digit 2 (omega arith))
processors_of (suc (suc zero)) less = ap (λ (ds : List ℕ). processors_in (Some ds)) (decimal_digit 3 (omega arith))
processors_of (suc (suc (suc m))) less = absurd (omega (arith, less))

cost_of : (m : ℕ) → m < 7 → seconds_in (Some (decimal m)) ≡ Ok (Some (1000000 * m))
cost_of zero less = ap (λ (ds : List ℕ). seconds_in (Some ds)) (decimal_digit 0 (omega arith))
cost_of (suc zero) less = ap (λ (ds : List ℕ). seconds_in (Some ds)) (decimal_digit 1 (omega arith))
cost_of (suc (suc zero)) less = ap (λ (ds : List ℕ). seconds_in (Some ds)) (decimal_digit 2 (omega arith))
cost_of (suc (suc (suc zero))) less = ap (λ (ds : List ℕ). seconds_in (Some ds)) (decimal_digit 3 (omega arith))
cost_of (suc (suc (suc (suc zero)))) less = ap (λ (ds : List ℕ). seconds_in (Some ds)) (decimal_digit 4 (omega arith))
cost_of (suc (suc (suc (suc (suc zero))))) less = ap (λ (ds : List ℕ). seconds_in (Some ds)) (decimal_digit 5 (omega arith))
cost_of (suc (suc (suc (suc (suc (suc zero)))))) less = ap (λ (ds : List ℕ). seconds_in (Some ds)) (decimal_digit 6 (omega arith))
cost_of (suc (suc (suc (suc (suc (suc (suc m))))))) less = absurd (omega (arith, less))

lock_entry : (m : ℕ) → m < 5 → entries_of (codes "l" ++ decimal m) ≡ (codes "l" ++ decimal m) ∷ []
lock_entry zero less = ap (λ (ds : List ℕ). entries_of (108 ∷ ds)) (decimal_digit 0 (omega arith)) ∙ ap (λ (ds : List ℕ). (108 ∷ ds) ∷ []) (sym (decimal_digit 0 (omega arith)))
lock_entry (suc zero) less = ap (λ (ds : List ℕ). entries_of (108 ∷ ds)) (decimal_digit 1 (omega arith)) ∙ ap (λ (ds : List ℕ). (108 ∷ ds) ∷ []) (sym (decimal_digit 1 (omega arith)))
lock_entry (suc (suc zero)) less = ap (λ (ds : List ℕ). entries_of (108 ∷ ds)) (decimal_digit 2 (omega arith)) ∙ ap (λ (ds : List ℕ). (108 ∷ ds) ∷ []) (sym (decimal_digit 2 (omega arith)))
lock_entry (suc (suc (suc zero))) less = ap (λ (ds : List ℕ). entries_of (108 ∷ ds)) (decimal_digit 3 (omega arith)) ∙ ap (λ (ds : List ℕ). (108 ∷ ds) ∷ []) (sym (decimal_digit 3 (omega arith)))
lock_entry (suc (suc (suc (suc zero)))) less = ap (λ (ds : List ℕ). entries_of (108 ∷ ds)) (decimal_digit 4 (omega arith)) ∙ ap (λ (ds : List ℕ). (108 ∷ ds) ∷ []) (sym (decimal_digit 4 (omega arith)))
lock_entry (suc (suc (suc (suc (suc m))))) less = absurd (omega (arith, less))

abbrev def_by : Bool → Bool → ℕ → TestDef
def_by waits locks n = record {
  name = load_test_name n;
  command = codes "true" ∷ [];
  dir = codes ".";
  props = own_pairs waits locks n;
  dir_labels = [];
}

-- whether a property has a key, and what its value is
abbrev has_key : List ℕ → Pair → Bool
has_key key pair = bytes_eq pair.name key

abbrev value : Pair → List ℕ
value pair = pair.value

abbrev pair : List ℕ → List ℕ → Pair
pair key text = record { name = key; value = text }

-- a key that a test may have, but does not
none_of : (some : Bool) (own key text : List ℕ) (more : List Pair) → bytes_eq own key ≡ false → find (has_key key) (some_pairs some own text ++ more) ≡ find (has_key key) more
none_of false own key text more other = refl
none_of true own key text more other = ap (λ (b : Bool). cond b (Some (pair own text)) (find (has_key key) more)) other

-- a key that no test of a load has
absent : (waits locks : Bool) (n : ℕ) (key : List ℕ) → bytes_eq (codes "PROCESSORS") key ≡ false → bytes_eq (codes "COST") key ≡ false → bytes_eq (codes "DEPENDS") key ≡ false → bytes_eq (codes "RESOURCE_LOCK") key ≡ false → value_of_key (own_pairs waits locks n) key ≡ None
absent waits locks n key processors cost depends lock =
    let more : List Pair = some_pairs locks (codes "RESOURCE_LOCK") (lock_value n) in
    let rest : List Pair = some_pairs waits (codes "DEPENDS") (load_test_name (n - 1)) ++ more in
    let a : Pair = pair (codes "PROCESSORS") (decimal (1 + n % 3)) in
    let b : Pair = pair (codes "COST") (decimal (n % 7)) in
    ap (λ (is : Bool). option_map value (cond is (Some a) (find (has_key key) (b ∷ rest)))) processors
    ∙ ap (λ (is : Bool). option_map value (cond is (Some b) (find (has_key key) rest))) cost
    ∙ ap (option_map value) (none_of waits (codes "DEPENDS") key (load_test_name (n - 1)) more depends)
    ∙ ap (λ (ps : List Pair). option_map value (find (has_key key) ps)) (sym (append-nil more))
    ∙ ap (option_map value) (none_of locks (codes "RESOURCE_LOCK") key (lock_value n) [] lock)

-- what the values of DEPENDS and RESOURCE_LOCK are read as
depends_read : (waits locks : Bool) (n : ℕ) → n < 2 ^ 64 → entries_of (text_of_key (own_pairs waits locks n) (codes "DEPENDS")) ≡ cond waits (load_test_name (n - 1) ∷ []) []
depends_read true locks n small = name_entries (n - 1) (omega (arith, small))
depends_read false true n small = refl
depends_read false false n small = refl

lock_read : (waits locks : Bool) (n : ℕ) → entries_of (text_of_key (own_pairs waits locks n) (codes "RESOURCE_LOCK")) ≡ cond locks (lock_value n ∷ []) []
lock_read true true n = lock_entry (n % 5) (omega arith)
lock_read false true n = lock_entry (n % 5) (omega arith)
lock_read true false n = refl
lock_read false false n = refl

-- what is read of the value of a key, if there is one
abbrev names : Option (List ℕ) → List (List ℕ)
names found = entries_of (or_empty found)

abbrev truth : Option (List ℕ) → Bool
truth found = is_true_text (or_empty found)

abbrev patterns : Option (List ℕ) → Result (List Tree) PropKind
patterns found = patterns_in (or_empty found)

has_own : (waits locks : Bool) (n : ℕ) → n < 2 ^ 64 → HasProps (def_by waits locks n) (own_by waits locks n)
has_own waits locks n small =
    let no : (key : List ℕ) → bytes_eq (codes "PROCESSORS") key ≡ false → bytes_eq (codes "COST") key ≡ false → bytes_eq (codes "DEPENDS") key ≡ false → bytes_eq (codes "RESOURCE_LOCK") key ≡ false → value_of_key (own_pairs waits locks n) key ≡ None = absent waits locks n in
    record {
      depends = sym (depends_read waits locks n small);
      setup = sym (ap names (no (codes "FIXTURES_SETUP") refl refl refl refl));
      required = sym (ap names (no (codes "FIXTURES_REQUIRED") refl refl refl refl));
      cleanup = sym (ap names (no (codes "FIXTURES_CLEANUP") refl refl refl refl));
      disabled = sym (ap truth (no (codes "DISABLED") refl refl refl refl));
      processors = processors_of (n % 3) (omega arith);
      locks = sym (lock_read waits locks n);
      shared = sym (ap names (no (codes "RESOURCE_LOCK_SHARED") refl refl refl refl));
      serial = sym (ap truth (no (codes "RUN_SERIAL") refl refl refl refl));
      fail = ap patterns (no (codes "FAIL_REGULAR_EXPRESSION") refl refl refl refl);
      pass = ap patterns (no (codes "PASS_REGULAR_EXPRESSION") refl refl refl refl);
      skip = ap patterns (no (codes "SKIP_REGULAR_EXPRESSION") refl refl refl refl);
      skip_code = ap skip_code_in (no (codes "SKIP_RETURN_CODE") refl refl refl refl);
      will_fail = sym (ap truth (no (codes "WILL_FAIL") refl refl refl refl));
      timeout = ap seconds_in (no (codes "TIMEOUT") refl refl refl refl);
      cost = cost_of (n % 7) (omega arith);
      environment = sym (ap names (no (codes "ENVIRONMENT") refl refl refl refl));
      modification = sym (ap names (no (codes "ENVIRONMENT_MODIFICATION") refl refl refl refl));
      required_files = sym (ap (λ (v : Option (List ℕ)). map (joined (working_dir_of (def_by waits locks n))) (entries_of (or_empty v))) (no (codes "REQUIRED_FILES") refl refl refl refl));
      labels = sym (ap (λ (v : Option (List ℕ)). each_once (entries_of (or_empty v) ++ [])) (no (codes "LABELS") refl refl refl refl));
      working_dir = sym (ap (λ (v : Option (List ℕ)). working_dir_in (codes ".") (or_empty v)) (no (codes "WORKING_DIRECTORY") refl refl refl refl));
      groups = ap (λ (v : Option (List ℕ)). resource_groups_in (or_empty v)) (no (codes "RESOURCE_GROUPS") refl refl refl refl);
    }

-- each test has its properties
pub have_own : (first count : ℕ) → first + count ≤ 2 ^ 64 → HaveProps (map load_def (range_with_len first count)) (map load_own (range_with_len first count))
have_own first zero few = tt
have_own first (suc count) few =
    (has_own (first % 10 == 0) (first % 4 == 0) first (omega (arith, few)), have_own (first + 1) count (omega (arith, few)))
