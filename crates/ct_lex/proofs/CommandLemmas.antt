-- One command: the reader finds exactly the command that the grammar writes.
use Rattle.std.proofs.Common.{◌≡◌, ℕ, suc, ◌+◌, Bool, true, false, ◌||◌, ◌==◌, nat_lt, List, [], ◌∷◌, ◌++◌, length, take, drop, get_or, Result, Ok, Err, refl, sym, ap, ◌∙◌, subst, arith, append_assoc, length-append}
use Rattle.std.proofs.lemmas.Bool.Decides.{nat_tests}
use Rattle.std.proofs.lemmas.Bool.{true≢false, and_parts, and_from}
use Rattle.std.proofs.lemmas.List.{take_at}
use Rattle.std.proofs.Math.Seq.{get_or-append_seam, drop-append_seam}
use Rattle.std.specs.Int.{is_in_range}
use Rattle.std.specs.List.{prefix_len, list_all}
use Rattle.ct_lex.specs.Bytes.{stands, is_space, is_word, begins_word, lower}
use Rattle.ct_lex.specs.Stop.{refused}
use Rattle.ct_lex.specs.Text.{arguments_from}
use Rattle.ct_lex.specs.Command.{CommandRead, word_len, paren_at, named, command_by, command}
use Rattle.ct_lex.specs.Grammar as grammar
use Rattle.ct_lex.specs.Grammar.{IsSpace, IsLineComment, IsLineEnd, IsIdentifier, IsArguments, IsCommand, IsRest}
use Rattle.ct_lex.specs.declared.call.Arg.{Arg}
use Rattle.ct_lex.specs.declared.stop.Stop.{Stop}
use Rattle.ct_lex.specs.declared.stop.Stop.TheVariants.{Ended}
use Rattle.ct_lex.specs.declared.stop.Cause.TheVariants as cause
use Rattle.ct_lex.proofs.FrontLemmas.{stands-at, run-read}
use Rattle.ct_lex.proofs.TextLemmas.{run-of, run-whole}
use Rattle.ct_lex.proofs.ArgumentsLemmas.{arguments-is, arguments-read}

-- a command at the front of a text, by the grammar
pub record CommandWritten (text name : List ℕ) (args : List Arg) (n : ℕ) : Type 0 where
  pub front : List ℕ
  pub back : List ℕ
  pub split : text ≡ front ++ back
  pub size : length front ≡ n
  pub written : IsCommand front name args

four-of-three : (digit upper small mark : Bool) → ((upper || small) || mark) ≡ true → (((digit || upper) || small) || mark) ≡ true
four-of-three true upper small mark e = refl
four-of-three false upper small mark e = e

pub word-of-begins : (byte : ℕ) → begins_word byte ≡ true → is_word byte ≡ true
word-of-begins byte e = four-of-three (is_in_range 48 57 byte) (is_in_range 65 90 byte) (is_in_range 97 122 byte) (byte == 95) e

abbrev read_as : List ℕ → List Arg → ℕ → Result CommandRead Stop
read_as name args n = Ok (name, args, n)

same-command : (a b : List ℕ) (xs ys : List Arg) (m n : ℕ) → read_as a xs m ≡ read_as b ys n → (a ≡ b) × (xs ≡ ys) × (m ≡ n)
same-command a b xs ys m n e =
    let left : CommandRead = (a, xs, m) in
    let right : CommandRead = (b, ys, n) in
    let both : left ≡ right = cc in
    (ap (λ (z : CommandRead). z.0) both, ap (λ (z : CommandRead). z.1) both, ap (λ (z : CommandRead). z.2) both)

-- a word, spaces, a `(` and arguments are a command of that word
named-is : (word spaces inner name : List ℕ) (args : List Arg) (n : ℕ) → IsIdentifier word → list_all is_space spaces ≡ true →
    (read : Result (List Arg × ℕ) Stop) → arguments_from 0 inner ≡ read → named (lower word) (length word + length spaces + 1) read ≡ Ok (name, args, n) → CommandWritten (word ++ (spaces ++ 40 ∷ inner)) name args n
named-is word spaces inner name args n is_word blank (Err stop) r e = cc
named-is word spaces inner name args n is_word blank (Ok x) r e =
    let same = same-command (lower word) name x.0 args (x.1 + (length word + length spaces + 1)) n e in
    let read = arguments-is (suc (length inner)) false inner x.0 x.1 (omega arith) (λ (no_way : false ≡ true). absurd (true≢false (sym no_way))) r in
    let front : List ℕ = word ++ (spaces ++ 40 ∷ (read.front ++ 41 ∷ [])) in
    let tail : 40 ∷ inner ≡ (40 ∷ (read.front ++ 41 ∷ [])) ++ read.back = ap (λ t. 40 ∷ t) (read.split ∙ sym (append_assoc read.front (41 ∷ []) read.back)) in
    let whole : word ++ (spaces ++ 40 ∷ inner) ≡ front ++ read.back =
    ap (λ t. word ++ (spaces ++ t)) tail ∙ ap (λ t. word ++ t) (sym (append_assoc spaces (40 ∷ (read.front ++ 41 ∷ [])) read.back)) ∙ sym (append_assoc word (spaces ++ 40 ∷ (read.front ++ 41 ∷ [])) read.back) in
    let written : IsCommand front (lower word) x.0 = grammar.command word spaces is_word blank read.written in
    record {
      front = front;
      back = read.back;
      split = whole;
      size = omega (arith, length-append word (spaces ++ 40 ∷ (read.front ++ 41 ∷ [])), length-append spaces (40 ∷ (read.front ++ 41 ∷ [])), length-append read.front (41 ∷ []), read.size, same.2);
      written = subst (λ (w : List ℕ). IsCommand front w args) same.0 (subst (λ (all : List Arg). IsCommand front (lower word) all) same.1 written);
    }

-- the place where the word and the spaces behind it end
paren-of : (word spaces back : List ℕ) → word_len (word ++ (spaces ++ back)) ≡ length word → prefix_len is_space (spaces ++ back) ≡ length spaces → paren_at (word ++ (spaces ++ back)) ≡ length word + length spaces
paren-of word spaces back count blank =
    let text : List ℕ = word ++ (spaces ++ back) in
    ap (λ k. k + prefix_len is_space (drop k text)) count ∙ ap (λ t. length word + prefix_len is_space t) (drop-append_seam word (spaces ++ back)) ∙ ap (λ k. length word + k) blank

pub command-as : (word spaces back : List ℕ) → word_len (word ++ (spaces ++ back)) ≡ length word → prefix_len is_space (spaces ++ back) ≡ length spaces → command (word ++ (spaces ++ back)) ≡ command_by (word ++ (spaces ++ back)) (lower word) (length word + length spaces)
command-as word spaces back count blank =
    let text : List ℕ = word ++ (spaces ++ back) in
    ap (λ k. command_by text (lower (take (word_len text) text)) k) (paren-of word spaces back count blank)
    ∙ ap (λ k. command_by text (lower (take k text)) (length word + length spaces)) count
    ∙ ap (λ t. command_by text (lower t) (length word + length spaces)) (take_at word (spaces ++ back) (length word) refl)

-- what is left behind the word and its spaces
pub behind-both : (word spaces back : List ℕ) (n : ℕ) → n ≡ length word + length spaces → drop n (word ++ (spaces ++ back)) ≡ back
behind-both word spaces back n e =
    let text : List ℕ = word ++ (spaces ++ back) in
    ap (λ k. drop k text) (e ∙ sym (length-append word spaces)) ∙ ap (λ t. drop (length (word ++ spaces)) t) (sym (append_assoc word spaces back)) ∙ drop-append_seam (word ++ spaces) back

opens-is : (word spaces back name : List ℕ) (args : List Arg) (n : ℕ) → IsIdentifier word → list_all is_space spaces ≡ true → command_by (word ++ (spaces ++ back)) (lower word) (length word + length spaces) ≡ Ok (name, args, n) → CommandWritten (word ++ (spaces ++ back)) name args n
opens-is word spaces [] name args n is_word blank e =
    let size : length (word ++ (spaces ++ [])) ≡ length word + length spaces = omega (arith, length-append word (spaces ++ []), length-append spaces []) in
    let at_end : (length word + length spaces == length (word ++ (spaces ++ []))) ≡ true = grind (arith, nat_tests, size) in
    let ended : command_by (word ++ (spaces ++ [])) (lower word) (length word + length spaces) ≡ Err Ended = rw at_end refl in
    cc
opens-is word spaces (byte ∷ inner) name args n is_word blank e = by_paren (byte == 40) refl
  where
    text : List ℕ
    text = word ++ (spaces ++ byte ∷ inner)

    paren : ℕ
    paren = length word + length spaces

    size : length text ≡ paren + suc (length inner)
    size = omega (arith, length-append word (spaces ++ byte ∷ inner), length-append spaces (byte ∷ inner))

    not_end : (paren == length text) ≡ false
    not_end = grind (arith, nat_tests, size)

    seam : get_or text paren 0 ≡ byte
    seam = ap (λ k. get_or text k 0) (sym (length-append word spaces)) ∙ ap (λ t. get_or t (length (word ++ spaces)) 0) (sym (append_assoc word spaces (byte ∷ inner))) ∙ get_or-append_seam (word ++ spaces) byte inner 0

    by_paren : (test : Bool) → (byte == 40) ≡ test → CommandWritten text name args n
    by_paren false t =
        let within : nat_lt paren (length text) ≡ true = grind (arith, nat_tests, size) in
        let other_byte : stands 40 paren text ≡ false = rw (within, seam) t in
        let no_command : command_by text (lower word) paren ≡ refused cause.BadChar (drop paren text) = rw (not_end, other_byte) refl in
        cc
    by_paren true t =
        let same : byte ≡ 40 = grind (arith, nat_tests) in
        let opens : stands 40 paren text ≡ true = stands-at 40 paren text (omega (arith, size)) (seam ∙ same) in
        let left : drop (paren + 1) text ≡ inner =
        ap (λ t. drop (paren + 1) t) (ap (λ t. word ++ t) (sym (append_assoc spaces (byte ∷ []) inner))) ∙ behind-both word (spaces ++ byte ∷ []) inner (paren + 1) (omega (arith, length-append spaces (byte ∷ []))) in
        let read : command_by text (lower word) paren ≡ named (lower word) (paren + 1) (arguments_from 0 inner) = rw (not_end, opens, left) refl in
        subst (λ (b : ℕ). CommandWritten (word ++ (spaces ++ b ∷ inner)) name args n) (sym same) (named-is word spaces inner name args n is_word blank (arguments_from 0 inner) refl (sym read ∙ e))

pub command-is : (byte : ℕ) (rest name : List ℕ) (args : List Arg) (n : ℕ) → begins_word byte ≡ true → command (byte ∷ rest) ≡ Ok (name, args, n) → CommandWritten (byte ∷ rest) name args n
command-is byte rest name args n begins e =
    let run = run-of is_word rest in
    let spaces = run-of is_space run.back in
    let word : List ℕ = byte ∷ run.run in
    let split : byte ∷ rest ≡ word ++ (spaces.run ++ spaces.back) = ap (λ t. byte ∷ t) (run.split ∙ ap (λ t. run.run ++ t) spaces.split) in
    let count : word_len (byte ∷ rest) ≡ length word = rw (word-of-begins byte begins) (omega (arith, run.size)) in
    let blank : prefix_len is_space (spaces.run ++ spaces.back) ≡ length spaces.run = ap (λ t. prefix_len is_space t) (sym spaces.split) ∙ spaces.size in
    let read = command-as word spaces.run spaces.back (ap (λ t. word_len t) (sym split) ∙ count) blank in
    subst (λ (t : List ℕ). CommandWritten t name args n) (sym split) (opens-is word spaces.run spaces.back name args n (begins, run.all) spaces.all (sym read ∙ ap (λ t. command t) (sym split) ∙ e))

-- a command that is written is found; first: an identifier is one run of its bytes
pub identifier-run : (word : List ℕ) → IsIdentifier word → prefix_len is_word word ≡ length word
identifier-run [] fit = absurd fit
identifier-run (byte ∷ bytes) fit = run-whole is_word (byte ∷ bytes) (and_from (is_word byte) (list_all is_word bytes) (word-of-begins byte fit.0) fit.1)

-- an identifier ends with its own last byte if spaces stand behind it, or else if it does not go on behind it
pub word-ends : (word spaces back : List ℕ) → IsIdentifier word → list_all is_space spaces ≡ true → (spaces ≡ [] → word_len (word ++ back) ≡ length word) → word_len (word ++ (spaces ++ back)) ≡ length word
word-ends word [] back fit blank alone = alone refl
word-ends word (first ∷ spaces) back fit blank alone =
    let both = and_parts (is_space first) (list_all is_space spaces) blank in
    run-read is_word word first (spaces ++ back) (identifier-run word fit) (space-no_word first both.0)
  where
    space-no_word : (byte : ℕ) → is_space byte ≡ true → is_word byte ≡ false
    space-no_word byte e = by_test (byte == 32) refl e
      where
        by_test : (test : Bool) → (byte == 32) ≡ test → (test || byte == 9) ≡ true → is_word byte ≡ false
        by_test true t f = let same : byte ≡ 32 = grind (arith, nat_tests) in ap (λ b. is_word b) same
        by_test false t f =
            let tab : (byte == 9) ≡ true = f in
            let same : byte ≡ 9 = grind (arith, nat_tests) in ap (λ b. is_word b) same

-- behind a word, spaces and a `(`, the arguments are read
pub opens-read : (word spaces rest : List ℕ) → IsIdentifier word → list_all is_space spaces ≡ true → command (word ++ (spaces ++ 40 ∷ rest)) ≡ named (lower word) (length word + length spaces + 1) (arguments_from 0 rest)
opens-read word spaces rest fit blank =
    let text : List ℕ = word ++ (spaces ++ 40 ∷ rest) in
    let paren : ℕ = length word + length spaces in
    let count : word_len text ≡ length word = word-ends word spaces (40 ∷ rest) fit blank (λ _. run-read is_word word 40 rest (identifier-run word fit) refl) in
    let spaced : prefix_len is_space (spaces ++ 40 ∷ rest) ≡ length spaces = run-read is_space spaces 40 rest (run-whole is_space spaces blank) refl in
    let size : length text ≡ paren + suc (length rest) = omega (arith, length-append word (spaces ++ 40 ∷ rest), length-append spaces (40 ∷ rest)) in
    let not_end : (paren == length text) ≡ false = grind (arith, nat_tests, size) in
    let seam : get_or text paren 0 ≡ 40 =
    ap (λ k. get_or text k 0) (sym (length-append word spaces)) ∙ ap (λ t. get_or t (length (word ++ spaces)) 0) (sym (append_assoc word spaces (40 ∷ rest))) ∙ get_or-append_seam (word ++ spaces) 40 rest 0 in
    let opens : stands 40 paren text ≡ true = stands-at 40 paren text (omega (arith, size)) seam in
    let left : drop (paren + 1) text ≡ rest =
    ap (λ t. drop (paren + 1) t) (ap (λ t. word ++ t) (sym (append_assoc spaces (40 ∷ []) rest))) ∙ behind-both word (spaces ++ 40 ∷ []) rest (paren + 1) (omega (arith, length-append spaces (40 ∷ []))) in
    let read : command_by text (lower word) paren ≡ named (lower word) (paren + 1) (arguments_from 0 rest) = rw (not_end, opens, left) refl in
    command-as word spaces (40 ∷ rest) count spaced ∙ read

pub command-read : {front name : List ℕ} {args : List Arg} → IsCommand front name args → (back : List ℕ) → command (front ++ back) ≡ Ok (name, args, length front)
command-read (grammar.command {text = inner} {args = args} word spaces fit blank written) back =
    let rest : List ℕ = inner ++ 41 ∷ back in
    let front : List ℕ = word ++ (spaces ++ 40 ∷ (inner ++ 41 ∷ [])) in
    let paren : ℕ = length word + length spaces in
    let split : front ++ back ≡ word ++ (spaces ++ 40 ∷ rest) =
    append_assoc word (spaces ++ 40 ∷ (inner ++ 41 ∷ [])) back ∙ ap (λ t. word ++ t) (append_assoc spaces (40 ∷ (inner ++ 41 ∷ [])) back) ∙ ap (λ t. word ++ (spaces ++ 40 ∷ t)) (append_assoc inner (41 ∷ []) back) in
    let inside = arguments-read written back in
    let P : ℕ → Result CommandRead Stop = λ k. Ok (lower word, args, k) in
    let sums : (length inner + 1) + (paren + 1) ≡ length front = omega (arith, length-append word (spaces ++ 40 ∷ (inner ++ 41 ∷ [])), length-append spaces (40 ∷ (inner ++ 41 ∷ [])), length-append inner (41 ∷ [])) in
    ap (λ t. command t) split ∙ opens-read word spaces rest fit blank ∙ ap (λ r. named (lower word) (paren + 1) r) inside.reads ∙ ap P sums
