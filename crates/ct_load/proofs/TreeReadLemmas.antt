-- The tree of a load is read as its tests.
use Rattle.std.proofs.Common.{◌≡◌, ◌∙◌, sym, ap, refl, ℕ, ◌+◌, ◌-◌, ◌*◌, ◌%◌, ◌≤◌, Bool, true, false, cond, ◌==◌, zero, suc, List, [], ◌++◌, length, arith, decimal}
use Rattle.std.specs.Prelude.{Some, None, Result, Ok, Err, codes, flat_map, nat_lt}
use Rattle.std.specs.List.{range_with_len}
use Rattle.std.proofs.lemmas.List.{length-append}
use Rattle.ct_base.specs.Memory.{held_by}
use Rattle.ct_base.specs.Outside.{Held}
use Rattle.ct_lex.specs.Place.{beginning}
use Rattle.ct_lex.specs.Reads.{Ending, commands_read}
use Rattle.ct_lex.specs.declared.call.Call.{Call}
use Rattle.ct_lex.proofs.CallerLemmas.{one_reading}
use Rattle.ct_testfile.specs.Limits.{tree_limits}
use Rattle.ct_testfile.specs.Outcome.{◌>>=◌, on_line, or_refused}
use Rattle.ct_testfile.specs.Tree.{admitted, beginning_with, carried, nested, tree_of}
use Rattle.ct_testfile.specs.declared.fault.ReadFault.{ReadFault}
use Rattle.ct_testfile.specs.declared.fault.ReadKind.{ReadKind}
use Rattle.ct_testfile.specs.declared.fault.ReadKind.TheVariants.{TooLong}
use Rattle.ct_testfile.proofs.TreeLemmas.{nested-some}
use Rattle.ct_load.specs.Tree.{add_line, depends, lines_of, load_test_name, lock, numbers, properties_line, tree_files, tree_text}
use Rattle.ct_load.proofs.TreeCommands.{test_calls}
use Rattle.ct_load.proofs.TreeTests.{load_defs}
use Rattle.ct_load.proofs.WrittenLemmas.{reads_tree}
use Rattle.ct_load.proofs.CarriedLemmas.{CarriesTo, State, TestFile, carry, fault_ok, kind_ok, not_above, number_length}

some_length : (b : Bool) (text : List ℕ) (n : ℕ) → length text ≤ n → length (cond b text []) ≤ n
some_length true text n within = within
some_length false text n within = omega arith

waits_length : (n : ℕ) → n ≤ 100000 → length (depends n) ≤ 18
waits_length n few =
    some_length (n % 10 == 0) (codes " DEPENDS \"" ++ load_test_name (n - 1) ++ codes "\"") 18
    (omega (arith, length-append (decimal (n - 1)) (codes "\""), number_length (n - 1) (omega (arith, few))))

lock_length : (n : ℕ) → length (lock n) ≤ 24
lock_length n =
    some_length (n % 4 == 0) (codes " RESOURCE_LOCK \"l" ++ decimal (n % 5) ++ codes "\"") 24
    (omega (arith, length-append (decimal (n % 5)) (codes "\""), number_length (n % 5) (omega arith)))

add_length : (n : ℕ) → n ≤ 100000 → length (add_line n) ≤ 25
add_length n few = omega (arith, length-append (decimal n) (codes " \"true\")\n"), number_length n few)

line_length : (n : ℕ) → n ≤ 100000 → length (properties_line n) ≤ 120
line_length n few =
    let a : List ℕ = decimal n ++ codes " PROPERTIES PROCESSORS \"" in
    let b : List ℕ = a ++ decimal (1 + n % 3) in
    let c : List ℕ = b ++ codes "\" COST \"" in
    let d : List ℕ = c ++ decimal (n % 7) in
    let e : List ℕ = d ++ codes "\"" in
    let f : List ℕ = e ++ depends n in
    let g : List ℕ = f ++ lock n in
    let front : List ℕ = codes "set_tests_properties(t" in
    let whole : length (properties_line n) ≡ length (front ++ (g ++ codes ")\n")) = refl in
    omega (arith, whole, length-append front (g ++ codes ")\n"), length-append g (codes ")\n"), length-append f (lock n), length-append e (depends n), length-append d (codes "\""), length-append c (decimal (n % 7)), length-append b (codes "\" COST \""), length-append a (decimal (1 + n % 3)), length-append (decimal n) (codes " PROPERTIES PROCESSORS \""), number_length n few, number_length (1 + n % 3) (omega arith), number_length (n % 7) (omega arith), waits_length n few, lock_length n)

text_length : (first count : ℕ) → first + count ≤ 100001 → length (flat_map lines_of (range_with_len first count)) ≤ 150 * count
text_length first zero few = omega arith
text_length first (suc count) few =
    let own : first ≤ 100000 = omega (arith, few) in
    let later = text_length (first + 1) count (omega (arith, few)) in
    omega (arith, later, add_length first own, line_length first own, length-append (add_line first) (properties_line first), length-append (lines_of first) (flat_map lines_of (range_with_len (first + 1) count)))

-- the tree of a load defines its tests
pub tree_read : (count : ℕ) → count ≤ 100000 → tree_of (held_by (tree_files count)) (codes ".") [] ≡ Ok (load_defs count)
tree_read count few =
    let held : Held = held_by (tree_files count) in
    let path : List ℕ = codes "./CTestTestfile.cmake" in
    let text : List ℕ = tree_text count in
    let file : TestFile = record { path = path; dir = codes "." } in
    let start : State = beginning_with [] in
    let next : State = record start { file_bytes = 0 + length text } in
    let size : length text ≤ 150 * count = text_length 1 count (omega (arith, few)) in
    let one = (one_reading (beginning text)).only (test_calls 1 (numbers count)) None (reads_tree count few) in
    let done : CarriesTo (nested tree_limits held 63) held path next (test_calls 1 (numbers count)) (load_defs count) =
    carry (nested tree_limits held 63) held path count 1 1 next (omega (arith, few)) (omega (arith, few)) (omega (arith, few)) (omega (arith, few)) (λ n from to. tt) in
    let admits : admitted tree_limits text start ≡ Ok next =
    ap (λ (b : Bool). cond b (Err TooLong) (or_refused (cond (nat_lt 268435456 (0 + length text)) None (Some (0 + length text))) TooLong >>= λ (n : ℕ). kind_ok (record start { file_bytes = n }))) (not_above 16777216 (length text) (omega (arith, size, few)))
    ∙ ap (λ (b : Bool). or_refused (cond b None (Some (0 + length text))) TooLong >>= λ (n : ℕ). kind_ok (record start { file_bytes = n })) (not_above 268435456 (0 + length text) (omega (arith, size, few))) in
    let whole : nested tree_limits held 64 path 0 file start text ≡ Ok done.end =
    nested-some tree_limits held path 0 file start 64 63 text refl
    ∙ ap (λ (a : Result State ReadKind). on_line path 0 a >>= λ next. carried (nested tree_limits held 63) tree_limits held file [] next (commands_read (beginning text)).0 (commands_read (beginning text)).1) admits
    ∙ ap (λ (calls : List Call). carried (nested tree_limits held 63) tree_limits held file [] next calls (commands_read (beginning text)).1) (sym one.0)
    ∙ ap (λ (ending : Ending). carried (nested tree_limits held 63) tree_limits held file [] next (test_calls 1 (numbers count)) ending) (sym one.1)
    ∙ done.is in
    ap (λ (r : Result State ReadFault). r >>= λ (state : State). fault_ok state.tests) whole ∙ ap Ok done.tests
