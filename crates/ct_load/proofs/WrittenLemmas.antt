-- The text of a load is read as the commands of its tests.
use Rattle.std.proofs.Common.{◌≡◌, ◌∙◌, sym, ap, subst, refl, ℕ, ◌+◌, ◌-◌, ◌%◌, ◌<◌, ◌≤◌, ◌^◌, Bool, true, false, cond, ◌&&◌, ◌==◌, zero, suc, List, [], ◌∷◌, ◌++◌, length, arith, append_assoc, decimal}
use Rattle.std.specs.Prelude.{codes, flat_map}
use Rattle.std.specs.List.{AllByRecursion, list_all, range_with_len}
use Rattle.std.specs.Str.Parse.{AllDigits}
use Rattle.std.proofs.lemmas.Bool.{ne_eqb}
use Rattle.std.proofs.lemmas.Bool.Decides.{nat_tests}
use Rattle.std.proofs.lemmas.List.{append-nil}
use Rattle.std.proofs.lemmas.Fmt.{decimal_is_IsNumeral}
use Rattle.std.proofs.lemmas.Str.Parse.{digit_from_value}
use Rattle.ct_lex.specs.Argument.{is_plain}
use Rattle.ct_lex.specs.Reads.{Reads}
use Rattle.ct_lex.specs.Written.{AreArgs, AreParts, CanBeWritten, IsArg, IsPlainWord, written, written_arg, written_behind, written_byte, written_bytes, written_call}
use Rattle.ct_lex.proofs.CallerLemmas.{reads_written}
use Rattle.ct_lex.specs.declared.call.Part.TheVariants.{Bytes}
use Rattle.ct_lex.specs.declared.call.Arg.{Arg}
use Rattle.ct_lex.specs.declared.call.ArgKind.TheVariants.{Quoted, Unquoted}
use Rattle.ct_load.specs.Tree.{add_line, depends, lines_of, load_test_name, lock, numbers, properties_line, tree_text}
use Rattle.ct_load.proofs.TreeCommands.{add_call, bare_arg, depends_args, line_after, lock_args, properties_call, quoted_arg, test_calls}

-- a digit stands for itself
digit_plain : (byte : ℕ) → 48 ≤ byte → byte ≤ 57 → is_plain Unquoted byte ≡ true
digit_plain byte low high = grind (arith, nat_tests)

digits_plain : (ds : List ℕ) → AllDigits 10 ds → list_all (is_plain Unquoted) ds ≡ true
digits_plain [] digits = refl
digits_plain (d ∷ ds) digits =
    let digit = digit_from_value d digits.0 in
    ap (λ b. b && list_all (is_plain Unquoted) ds) (digit_plain d (omega (arith, digit.0)) (omega (arith, digit.1))) ∙ digits_plain ds digits.1

-- the digits of a number stand for themselves
decimal_plain : (n : ℕ) → n < 2 ^ 64 → list_all (is_plain Unquoted) (decimal n) ≡ true
decimal_plain n small = digits_plain (decimal n) (decimal_is_IsNumeral n small).0.1

-- the name of a test is a word that needs no quotes
name_word : (n : ℕ) → n < 2 ^ 64 → IsPlainWord (load_test_name n ++ [])
name_word n small = (refl, subst (λ (t : List ℕ). list_all (is_plain Unquoted) (116 ∷ t) ≡ true) (sym (append-nil (decimal n))) (decimal_plain n small))

name_arg : (n : ℕ) → n < 2 ^ 64 → IsArg Unquoted (bare_arg (load_test_name n)).parts
name_arg n small = (ap (λ (t : List ℕ). Bytes (116 ∷ t) ∷ []) (append-nil (decimal n)), name_word n small)

-- a digit is written as it is
digit_written : (byte : ℕ) → 48 ≤ byte → byte ≤ 57 → written_byte byte ≡ byte ∷ []
digit_written byte low high =
    let quote : (byte == 34) ≡ false = ne_eqb byte 34 (λ e. omega (arith, low, high, e)) in
    let escape : (byte == 92) ≡ false = ne_eqb byte 92 (λ e. omega (arith, low, high, e)) in
    let dollar : (byte == 36) ≡ false = ne_eqb byte 36 (λ e. omega (arith, low, high, e)) in
    rw (quote, escape, dollar) refl

digits_written : (ds : List ℕ) → AllDigits 10 ds → written_bytes ds ≡ ds
digits_written [] digits = refl
digits_written (d ∷ ds) digits =
    let digit = digit_from_value d digits.0 in
    ap (λ (front : List ℕ). front ++ written_bytes ds) (digit_written d (omega (arith, digit.0)) (omega (arith, digit.1))) ∙ ap (λ (t : List ℕ). d ∷ t) (digits_written ds digits.1)

number_written : (n : ℕ) → n < 2 ^ 64 → written_bytes (decimal n) ≡ decimal n
number_written n small = digits_written (decimal n) (decimal_is_IsNumeral n small).0.1

-- a text that is not empty is one part
one_part : (text : List ℕ) → 0 < length text → AreParts (Bytes text ∷ [])
one_part [] some = absurd (omega (arith, some))
one_part (byte ∷ text) some = (refl, tt)

number_parts : (n : ℕ) → n < 2 ^ 64 → AreParts (Bytes (decimal n) ∷ [])
number_parts n small = one_part (decimal n) (decimal_is_IsNumeral n small).0.0

-- a text that is written as it is stands between two quotes
quoted_written : (text : List ℕ) → written_bytes text ≡ text → written_arg Quoted (quoted_arg text).parts ≡ codes "\"" ++ (text ++ codes "\"")
quoted_written text same = ap (λ (t : List ℕ). 34 ∷ (t ++ 34 ∷ [])) (append-nil (written_bytes text) ∙ same)

-- arguments behind other ones are written behind them
behind-append : (args others : List Arg) → written_behind (args ++ others) ≡ written_behind args ++ written_behind others
behind-append [] others = refl
behind-append (arg ∷ args) others =
    let here : List ℕ = written_arg arg.kind arg.parts in
    ap (λ (t : List ℕ). 32 ∷ (here ++ t)) (behind-append args others) ∙ ap (λ (t : List ℕ). 32 ∷ t) (sym (append_assoc here (written_behind args) (written_behind others)))

args-append : (args others : List Arg) → AreArgs args → AreArgs others → AreArgs (args ++ others)
args-append [] others fit more = more
args-append (arg ∷ args) others fit more = (fit.0, args-append args others fit.1 more)

-- arguments that may be left out
some_written : (b : Bool) (args : List Arg) (text : List ℕ) → written_behind args ≡ text → written_behind (cond b args []) ≡ cond b text []
some_written true args text same = same
some_written false args text same = refl

some_args : (b : Bool) (args : List Arg) → AreArgs args → AreArgs (cond b args [])
some_args true args fit = fit
some_args false args fit = tt

-- what each command is written as
add_written : (line n : ℕ) → written_call (add_call line n) ≡ add_line n
add_written line n =
    ap (λ (t : List ℕ). codes "add_test(t" ++ t) (append_assoc (decimal n ++ []) (codes " \"true\"") (codes ")\n") ∙ ap (λ (d : List ℕ). d ++ codes " \"true\")\n") (append-nil (decimal n)))

depends_written : (n : ℕ) → n < 2 ^ 64 → written_behind (depends_args n) ≡ depends n
depends_written n small =
    let name : List ℕ = load_test_name (n - 1) in
    let same : written_bytes name ≡ name = ap (λ (t : List ℕ). 116 ∷ t) (number_written (n - 1) (omega (arith, small))) in
    some_written (n % 10 == 0) _ _ (ap (λ (q : List ℕ). codes " DEPENDS " ++ q) (append-nil (written_arg Quoted (quoted_arg name).parts) ∙ quoted_written name same))

lock_written : (n : ℕ) → written_behind (lock_args n) ≡ lock n
lock_written n =
    let name : List ℕ = codes "l" ++ decimal (n % 5) in
    let same : written_bytes name ≡ name = ap (λ (t : List ℕ). 108 ∷ t) (number_written (n % 5) (omega arith)) in
    some_written (n % 4 == 0) _ _ (ap (λ (q : List ℕ). codes " RESOURCE_LOCK " ++ q) (append-nil (written_arg Quoted (quoted_arg name).parts) ∙ quoted_written name same))

abbrev line_of : List ℕ → List ℕ → List ℕ → List ℕ → List ℕ
line_of name processors cost more =
    codes "set_tests_properties(t" ++ ((name ++ (codes " PROPERTIES PROCESSORS " ++ (processors ++ (codes " COST " ++ (cost ++ more))))) ++ codes ")\n")

-- the parts of a line, with other brackets
flat : (front name given quote processors cost value waits locks end : List ℕ) → front ++ ((name ++ (given ++ ((quote ++ (processors ++ quote)) ++ (cost ++ ((quote ++ (value ++ quote)) ++ (waits ++ locks)))))) ++ end) ≡ front ++ name ++ (given ++ quote) ++ processors ++ (quote ++ cost ++ quote) ++ value ++ quote ++ waits ++ locks ++ end
flat front name given quote processors cost value waits locks end = simp append_assoc

properties_written : (line n : ℕ) → n < 2 ^ 64 → written_call (properties_call line n) ≡ properties_line n
properties_written line n small =
    let a : List ℕ = decimal (1 + n % 3) in
    let b : List ℕ = decimal (n % 7) in
    let more : written_behind (depends_args n ++ lock_args n) ≡ depends n ++ lock n =
    behind-append (depends_args n) (lock_args n) ∙ ap (λ (t : List ℕ). t ++ written_behind (lock_args n)) (depends_written n small) ∙ ap (λ (t : List ℕ). depends n ++ t) (lock_written n) in
    let qa = quoted_written a (number_written (1 + n % 3) (omega arith)) in
    let qb = quoted_written b (number_written (n % 7) (omega arith)) in
    let named : written_call (properties_call line n) ≡ line_of (decimal n) (written_arg Quoted (quoted_arg a).parts) (written_arg Quoted (quoted_arg b).parts) (written_behind (depends_args n ++ lock_args n)) =
    ap (λ (t : List ℕ). line_of t (written_arg Quoted (quoted_arg a).parts) (written_arg Quoted (quoted_arg b).parts) (written_behind (depends_args n ++ lock_args n))) (append-nil (decimal n)) in
    let asked : line_of (decimal n) (written_arg Quoted (quoted_arg a).parts) (written_arg Quoted (quoted_arg b).parts) (written_behind (depends_args n ++ lock_args n)) ≡ line_of (decimal n) (codes "\"" ++ (a ++ codes "\"")) (codes "\"" ++ (b ++ codes "\"")) (depends n ++ lock n) =
    ap (λ (t : List ℕ). line_of (decimal n) t (written_arg Quoted (quoted_arg b).parts) (written_behind (depends_args n ++ lock_args n))) qa
    ∙ ap (λ (t : List ℕ). line_of (decimal n) (codes "\"" ++ (a ++ codes "\"")) t (written_behind (depends_args n ++ lock_args n))) qb
    ∙ ap (λ (t : List ℕ). line_of (decimal n) (codes "\"" ++ (a ++ codes "\"")) (codes "\"" ++ (b ++ codes "\"")) t) more in
    named ∙ asked ∙ flat (codes "set_tests_properties(t") (decimal n) (codes " PROPERTIES PROCESSORS ") (codes "\"") a (codes " COST ") b (depends n) (lock n) (codes ")\n")

-- the commands of tests are written as the lines of these tests
calls_written : (line : ℕ) (ns : List ℕ) → AllByRecursion (λ n. n < 2 ^ 64) ns → written (test_calls line ns) ≡ flat_map lines_of ns
calls_written line [] small = refl
calls_written line (n ∷ ns) small =
    let add = add_call line n in
    let own = properties_call (line_after add) n in
    let rest : List ℕ = flat_map lines_of ns in
    ap (λ (t : List ℕ). written_call add ++ (written_call own ++ t)) (calls_written (line_after own) ns small.1)
    ∙ ap (λ (t : List ℕ). t ++ (written_call own ++ rest)) (add_written line n)
    ∙ ap (λ (t : List ℕ). add_line n ++ (t ++ rest)) (properties_written (line_after add) n small.0)
    ∙ sym (append_assoc (add_line n) (properties_line n) rest)

-- the commands of tests can be written
can_write : (line : ℕ) (ns : List ℕ) → AllByRecursion (λ n. n < 2 ^ 64) ns → CanBeWritten line (test_calls line ns)
can_write line [] small = tt
can_write line (n ∷ ns) small =
    let add = add_call line n in
    let own = properties_call (line_after add) n in
    let depends_fit : AreArgs (depends_args n) = some_args (n % 10 == 0) _ ((refl, (refl, refl)), (one_part (load_test_name (n - 1)) (omega arith), tt)) in
    let lock_fit : AreArgs (lock_args n) = some_args (n % 4 == 0) _ ((refl, (refl, refl)), (one_part (codes "l" ++ decimal (n % 5)) (omega arith), tt)) in
    let name = name_arg n small.0 in (
      ((refl, refl), refl),
      (name, ((refl, tt), tt)),
      refl,
      (
        ((refl, refl), refl),
        (name, ((refl, (refl, refl)), ((refl, (refl, refl)), (number_parts (1 + n % 3) (omega arith), ((refl, (refl, refl)), (number_parts (n % 7) (omega arith), args-append (depends_args n) (lock_args n) depends_fit lock_fit)))))),
        refl,
        can_write (line_after own) ns small.1,
      ),
    )

-- ns from one on are small
small_numbers : (first count : ℕ) → first + count ≤ 2 ^ 64 → AllByRecursion (λ n. n < 2 ^ 64) (range_with_len first count)
small_numbers first zero few = tt
small_numbers first (suc count) few = (omega (arith, few), small_numbers (first + 1) count (omega (arith, few)))

-- the text of a load is read as the commands of its tests
pub reads_tree : (count : ℕ) → count ≤ 100000 → Reads (tree_text count) (test_calls 1 (numbers count))
reads_tree count few =
    let small = small_numbers 1 count (omega (arith, few)) in
    reads_written (tree_text count) (test_calls 1 (numbers count)) (can_write 1 (numbers count) small) (sym (calls_written 1 (numbers count) small))
