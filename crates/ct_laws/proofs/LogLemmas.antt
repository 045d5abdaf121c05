-- The log of the failed tests is read back.
use Rattle.std.proofs.Common.{◌≡◌, ◌∙◌, sym, ap, refl, ℕ, ◌+◌, true, false, cond, List, [], ◌∷◌, ◌++◌, length, take, drop, map, filter_map, All, Option, Some, None, arith, append_assoc, codes}
use Rattle.std.specs.Prelude.{◌&&◌, ◌==◌, not, flat_map, decimal}
use Rattle.std.specs.List.{cons_option, slice_split}
use Rattle.std.proofs.Math.Seq.{drop-append-add, take-append_seam}
use Rattle.std.proofs.lemmas.Bool.{and_from}
use Rattle.std.proofs.lemmas.List.{append-nil}
use Rattle.std.proofs.lemmas.List.Elements.{All-append, All-cons, All-head, All-nil, All-tail, filter_map-append}
use Rattle.ct_base.specs.Bytes.{colon}
use Rattle.ct_base.specs.Seconds.{is_numeral}
use Rattle.ct_history.specs.declared.plan.PlanTest.{PlanTest}
use Rattle.ct_history.specs.declared.plan.PlanParts.{PlanParts}
use Rattle.ct_history.specs.declared.history.Entry.{Entry}
use Rattle.ct_history.specs.Failed.{failed_tests}
use Rattle.ct_cost.specs.After.{failed_log_text, logged}
use Rattle.ct_select.specs.FailedLog.{failed_in, name_behind, name_in}
use Rattle.ct_laws.specs.Lines.{HaveLines, IsLine}
use Rattle.ct_laws.proofs.LineLemmas.{NonePass, decimal_digits, decimal_numeral, is_feed, line_text, no_colon, no_digit, none_is, not_empty, position_at, split_lines}

-- the line of a test, without its end
abbrev logged_line : PlanTest → List ℕ
logged_line t = decimal t.number ++ codes ":" ++ t.name

named : (line name : List ℕ) (at : ℕ) → is_numeral (take at line) ≡ true → drop (at + 1) line ≡ name → not (length name == 0) ≡ true → name_behind line (Some at) ≡ Some name
named line name at number is some =
    ap (λ (behind : List ℕ). cond (is_numeral (take at line) && not (length behind == 0)) (Some behind) None) is
    ∙ ap (λ b. cond b (Some name) None) (and_from (is_numeral (take at line)) (not (length name == 0)) number some)

-- the name in the line of a test
name_of : (t : PlanTest) → IsLine t.name → name_in (logged_line t) ≡ Some t.name
name_of t line =
    let digits = decimal t.number in
    let text = digits ++ colon ∷ t.name in
    let same : logged_line t ≡ text = append_assoc digits (codes ":") t.name in
    let found = position_at (λ byte. byte == colon) digits colon t.name (no_colon digits (decimal_digits t.number)) refl in
    let number : is_numeral (take (length digits) text) ≡ true = ap is_numeral (take-append_seam digits (colon ∷ t.name)) ∙ decimal_numeral t.number in
    ap name_in same
    ∙ ap (name_behind text) found
    ∙ named text t.name (length digits) number (drop-append-add digits (colon ∷ t.name) 1) (not_empty t.name line.some)

log_lines : (tests : List PlanTest) → flat_map logged tests ≡ flat_map line_text (map logged_line tests)
log_lines [] = refl
log_lines (t ∷ tests) = ap (λ more. logged t ++ more) (log_lines tests)

whole_lines : (tests : List PlanTest) → HaveLines tests → All (NonePass is_feed) (map logged_line tests)
whole_lines [] have = All-nil (NonePass is_feed)
whole_lines (t ∷ tests) have =
    let quiet = λ (byte : ℕ). is_feed byte ≡ false in
    let line = All-head (λ (u : PlanTest). IsLine u.name) t tests have in
    let front = All-append quiet (decimal t.number) (codes ":") (no_digit 10 (omega arith) (decimal t.number) (decimal_digits t.number)) (All-cons quiet colon [] refl (All-nil quiet)) in
    All-cons (NonePass is_feed) (logged_line t) (map logged_line tests) (All-append quiet (decimal t.number ++ codes ":") t.name front (none_is 10 t.name line.whole))
    (whole_lines tests (All-tail (λ (u : PlanTest). IsLine u.name) t tests have))

names_in : (tests : List PlanTest) → HaveLines tests → filter_map name_in (map logged_line tests) ≡ map (λ (t : PlanTest). t.name) tests
names_in [] have = refl
names_in (t ∷ tests) have =
    ap (λ (found : Option (List ℕ)). cons_option found (filter_map name_in (map logged_line tests))) (name_of t (All-head (λ (u : PlanTest). IsLine u.name) t tests have))
    ∙ ap (λ names. t.name ∷ names) (names_in tests (All-tail (λ (u : PlanTest). IsLine u.name) t tests have))

-- the log names the tests that failed
pub log_back : (plan : PlanParts) (entries : List Entry) → HaveLines (failed_tests plan entries) → failed_in (failed_log_text plan entries) ≡ map (λ (t : PlanTest). t.name) (failed_tests plan entries)
log_back plan entries have =
    let tests = failed_tests plan entries in
    let lines = map logged_line tests in
    let split : slice_split is_feed (flat_map logged tests) ≡ lines ++ [] ∷ [] =
    ap (slice_split is_feed) (log_lines tests ∙ sym (append-nil (flat_map line_text lines))) ∙ split_lines lines [] (whole_lines tests have) in
    ap (filter_map name_in) split
    ∙ filter_map-append name_in lines ([] ∷ [])
    ∙ append-nil (filter_map name_in lines)
    ∙ names_in tests have
