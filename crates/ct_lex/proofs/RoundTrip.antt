-- Commands that are written as CMake writes them follow the grammar, and so they are read back.
use Rattle.std.proofs.Common.{◌≡◌, ℕ, ◌+◌, Bool, true, false, cond, ◌||◌, ◌==◌, List, [], ◌∷◌, ◌++◌, length, get_or, Some, refl, sym, ap, ◌∙◌, subst, arith, append_assoc}
use Rattle.std.proofs.lemmas.Bool.Decides.{nat_tests}
use Rattle.std.proofs.lemmas.Bool.{true≢false, and_parts}
use Rattle.std.specs.List.{list_all}
use Rattle.ct_lex.specs.Argument.{escaped, with_bytes, is_plain, without_feed}
use Rattle.ct_lex.specs.Bytes.{begins_word, feeds}
use Rattle.ct_lex.specs.Place.{unmarked}
use Rattle.ct_lex.specs.Reads.{Reads}
use Rattle.ct_lex.specs.Grammar as grammar
use Rattle.ct_lex.specs.Grammar.{BeginsBracket, IsText, IsArgument, IsArguments, IsCommand, IsRest}
use Rattle.ct_lex.specs.Written.{written_byte, written_bytes, written_parts, plain_bytes, written_arg, written_behind, written_args, written_call, written, AreParts, IsPlainWord, IsArg, AreArgs, IsCommandName, CanBeWritten, ReadsWritten}
use Rattle.ct_lex.specs.declared.call.Arg.{Arg}
use Rattle.ct_lex.specs.declared.call.ArgKind.{ArgKind}
use Rattle.ct_lex.specs.declared.call.ArgKind.TheVariants.{Bracket, Quoted, Unquoted}
use Rattle.ct_lex.specs.declared.call.Call.{Call}
use Rattle.ct_lex.specs.declared.call.Part.{Part}
use Rattle.ct_lex.specs.declared.call.Part.TheVariants.{Bytes, Ref}
use Rattle.ct_lex.proofs.FrontLemmas.{feeds-append, is-other}
use Rattle.ct_lex.proofs.RestLemmas.{reads_files}
use Rattle.ct_lex.proofs.RunLemmas.{with_bytes-join}

text_as : {kind : ArgKind} {text other : List ℕ} {parts more : List Part} → other ≡ text → more ≡ parts → IsText kind other more → IsText kind text parts
text_as {kind} {text} {other} {parts} {more} e f t = subst (λ (p : List Part). IsText kind text p) f (subst (λ (s : List ℕ). IsText kind s more) e t)

-- quoted arguments; first: equal bytes have the same escape
escaped-same : (byte code : ℕ) → escaped Quoted code ≡ Some (Bytes (code ∷ [])) → (byte == code) ≡ true → escaped Quoted byte ≡ Some (Bytes (byte ∷ []))
escaped-same byte code stands_for e =
    let same : byte ≡ code = grind (arith, nat_tests) in subst (λ (b : ℕ). escaped Quoted b ≡ Some (Bytes (b ∷ []))) (sym same) stands_for

byte-written : (quote escape dollar : Bool) (byte : ℕ) → (byte == 34) ≡ quote → (byte == 92) ≡ escape → (byte == 36) ≡ dollar → (text : List ℕ) (parts : List Part) → IsText Quoted text parts →
    IsText Quoted (cond (quote || escape || dollar) (92 ∷ byte ∷ []) (byte ∷ []) ++ text) (with_bytes (byte ∷ []) parts)
byte-written true escape dollar byte a b c text parts t = grammar.escape byte (Bytes (byte ∷ [])) (escaped-same byte 34 refl a) t
byte-written false true dollar byte a b c text parts t = grammar.escape byte (Bytes (byte ∷ [])) (escaped-same byte 92 refl b) t
byte-written false false true byte a b c text parts t = grammar.escape byte (Bytes (byte ∷ [])) (escaped-same byte 36 refl c) t
byte-written false false false byte a b c text parts t = grammar.plain byte (rw (a, b, c) refl) t

bytes-written : (bytes : List ℕ) (text : List ℕ) (parts : List Part) → IsText Quoted text parts → IsText Quoted (written_bytes bytes ++ text) (with_bytes bytes parts)
bytes-written [] text parts t = t
bytes-written (byte ∷ bytes) text parts t =
    text_as (sym (append_assoc (written_byte byte) (written_bytes bytes) text)) (with_bytes-join byte bytes parts)
    (byte-written (byte == 34) (byte == 92) (byte == 36) byte refl refl refl (written_bytes bytes ++ text) (with_bytes bytes parts) (bytes-written bytes text parts t))

parts-written : (parts : List Part) → AreParts parts → IsText Quoted (written_parts parts) parts
parts-written [] fit = grammar.nothing
parts-written (Bytes bytes ∷ parts) fit = text_as refl fit.0 (bytes-written bytes (written_parts parts) parts (parts-written parts fit.1))
parts-written (Ref name ∷ parts) fit = grammar.reference name fit.0 (parts-written parts fit.1)

-- words without quotes: plain bytes are the text of an unquoted argument
plain-written : (bytes : List ℕ) → list_all (is_plain Unquoted) bytes ≡ true → IsText Unquoted bytes (with_bytes bytes [])
plain-written [] all = grammar.nothing
plain-written (byte ∷ bytes) all =
    let both = and_parts (is_plain Unquoted byte) (list_all (is_plain Unquoted) bytes) all in
    text_as refl (with_bytes-join byte bytes []) (grammar.plain byte both.0 (plain-written bytes both.1))

word-written : (bytes : List ℕ) (parts : List Part) → with_bytes bytes [] ≡ parts → IsPlainWord bytes → IsArgument bytes (record { kind = Unquoted; parts = parts })
word-written [] parts e fit = absurd fit
word-written (byte ∷ bytes) parts e fit =
    let some : byte ∷ bytes ≡ [] → ⊥ = λ (none : byte ∷ bytes ≡ []). (let size : length (byte ∷ bytes) ≡ 0 = ap (λ t. length t) none in absurd (omega arith)) in
    let unopened : BeginsBracket (byte ∷ bytes) → ⊥ = λ (begins : BeginsBracket (byte ∷ bytes)).
    let first : byte ≡ 91 = ap (λ t. get_or t 0 0) begins.2 in
    let same : (byte == 91) ≡ true = grind (arith, nat_tests) in
    true≢false (sym same ∙ fit.0) in
    grammar.unquoted (text_as refl e (plain-written (byte ∷ bytes) fit.1)) some unopened

argument-written : (kind : ArgKind) (parts : List Part) → IsArg kind parts → IsArgument (written_arg kind parts) (record { kind = kind; parts = parts })
argument-written Bracket parts fit =
    let bytes : List ℕ = plain_bytes parts in
    let same : with_bytes (without_feed bytes) [] ≡ parts = ap (λ t. with_bytes t []) fit.1.front ∙ fit.0 in
    subst (λ (all : List Part). IsArgument (written_arg Bracket parts) (record { kind = Bracket; parts = all })) same (grammar.bracketed (grammar.bracket 1 fit.1.closed))
argument-written Quoted parts fit = grammar.quoted (parts-written parts fit)
argument-written Unquoted parts fit = word-written (plain_bytes parts) parts fit.0 fit.1

behind-written : (args : List Arg) → AreArgs args → IsArguments true (written_behind args) args
behind-written [] fit = grammar.none
behind-written (arg ∷ args) fit =
    grammar.space (grammar.blank 32 refl) (grammar.argument (argument-written arg.kind arg.parts fit.0) (behind-written args fit.1))

arguments-written : (args : List Arg) → AreArgs args → IsArguments false (written_args args) args
arguments-written [] fit = grammar.none
arguments-written (arg ∷ args) fit = grammar.argument (argument-written arg.kind arg.parts fit.0) (behind-written args fit.1)

-- a command as it is written, without its line feed
abbrev command_text : Call → List ℕ
command_text call = call.name ++ 40 ∷ (written_args call.args ++ 41 ∷ [])

command-written : (call : Call) → IsCommandName call.name → AreArgs call.args → IsCommand (command_text call) call.name call.args
command-written call name fit =
    subst (λ (w : List ℕ). IsCommand (command_text call) w call.args) name.1 (grammar.command call.name [] name.0 refl (arguments-written call.args fit))

calls-written : (calls : List Call) (line : ℕ) → CanBeWritten line calls → IsRest false line (written calls) calls
calls-written [] line fit = grammar.at_end
calls-written (call ∷ calls) line fit =
    let text : List ℕ = command_text call in
    let tail : List ℕ = 10 ∷ written calls in
    let split : written_call call ++ written calls ≡ text ++ tail = simp append_assoc in
    let whole : written_call call ≡ text ++ 10 ∷ [] = simp append_assoc in
    let lines : line + feeds (written_call call) ≡ (line + feeds text) + feeds (10 ∷ []) = ap (λ t. line + feeds t) whole ∙ omega (arith, feeds-append text (10 ∷ [])) in
    let later : IsRest false ((line + feeds text) + feeds (10 ∷ [])) (written calls) calls = calls-written calls ((line + feeds text) + feeds (10 ∷ [])) (subst (λ (n : ℕ). CanBeWritten n calls) lines fit.3) in
    let behind : IsRest true (line + feeds text) tail calls = grammar.line_end grammar.feed later in
    let read : IsRest false line (text ++ tail) (record { name = call.name; args = call.args; line = line } ∷ calls) = grammar.command (command-written call fit.0 fit.1) behind in
    subst (λ (t : List ℕ). IsRest false line t (call ∷ calls)) (sym split) (subst (λ (n : ℕ). IsRest false line (text ++ tail) (record { name = call.name; args = call.args; line = n } ∷ calls)) (sym fit.2) read)

-- no command begins with a byte order mark
unmarked-name : (name more : List ℕ) → IsCommandName name → unmarked (name ++ more) ≡ name ++ more
unmarked-name [] more fit = absurd fit.0
unmarked-name (byte ∷ bytes) more fit =
    let other : (byte == 239) ≡ false = is-other begins_word byte 239 fit.0.0 refl in
    let e : (239 == byte) ≡ false = grind (arith, nat_tests) in
    rw e refl

unmarked-written : (calls : List Call) (line : ℕ) → CanBeWritten line calls → unmarked (written calls) ≡ written calls
unmarked-written [] line fit = refl
unmarked-written (call ∷ calls) line fit =
    let rest : List ℕ = 40 ∷ (written_args call.args ++ 41 ∷ 10 ∷ []) in
    let e : written (call ∷ calls) ≡ call.name ++ (rest ++ written calls) = append_assoc call.name rest (written calls) in
    ap (λ t. unmarked t) e ∙ unmarked-name call.name (rest ++ written calls) fit.0 ∙ sym e

written-read : (calls : List Call) → CanBeWritten 1 calls → Reads (written calls) calls
written-read calls fit =
    (reads_files (written calls) calls).1 (subst (λ (t : List ℕ). IsRest false 1 t calls) (sym (unmarked-written calls 1 fit)) (calls-written calls 1 fit))

-- what is written is read back
pub reads_written : (text : List ℕ) → ReadsWritten text
reads_written text calls fit e = subst (λ (t : List ℕ). Reads t calls) (sym e) (written-read calls fit)
