-- The arguments of a command as they are kept:
-- their text alone is read as the same arguments, the first one first.
use Rattle.std.proofs.Common.{◌≡◌, ◌∙◌, inl, inr, ℕ, suc, ◌+◌, ◌<◌, ◌≤◌, Bool, true, false, ◌==◌, List, [], ◌∷◌, ◌++◌, length, take, drop, get_or, Result, Ok, Err, refl, sym, ap, subst, arith, append_assoc, length-append, length-drop}
use Rattle.std.specs.Result.{is_ok, IsOk}
use Rattle.std.proofs.lemmas.Bool.{true≢false}
use Rattle.std.proofs.lemmas.Bool.Decides.{nat_tests}
use Rattle.std.proofs.lemmas.List.{take_at}
use Rattle.ct_lex.specs.Args.{arguments_in, BeginsArguments}
use Rattle.ct_lex.specs.Bracket.{gap_at, opening}
use Rattle.ct_lex.specs.Stop.{refused}
use Rattle.ct_lex.specs.Extent.{bytes_read, list_read}
use Rattle.ct_lex.specs.Text.{moved, argument, argument_by, argument_before, arguments_from, may_follow, plain_argument, text_from, HasNoGap}
use Rattle.ct_lex.specs.Bytes.{stands}
use Rattle.ct_lex.specs.declared.call.Arg.{Arg}
use Rattle.ct_lex.specs.declared.call.ArgKind.TheVariants.{Quoted}
use Rattle.ct_lex.specs.declared.call.Part.{Part}
use Rattle.ct_lex.specs.declared.stop.Stop.{Stop}
use Rattle.ct_lex.specs.declared.stop.Stop.TheVariants.{Ended, At}
use Rattle.ct_lex.specs.declared.stop.Cause.TheVariants.{BadChar}
use Rattle.ct_lex.proofs.FrontLemmas.{stands-front}
use Rattle.ct_lex.proofs.StepLemmas.{first-byte, gap_passed, argument_passed, argument_turn}
use Rattle.ct_lex.proofs.ArgumentLemmas.{argument-is, argument-some}
use Rattle.ct_lex.proofs.ArgumentsLemmas.{arguments-is, arguments-read}

-- arguments are read from their own text alone as they are from the longer text
pub arguments-cut : (text : List ℕ) (args : List Arg) (n : ℕ) → arguments_from 0 text ≡ Ok (args, n) → arguments_from 0 (take n text) ≡ Ok (args, n)
arguments-cut text args n e =
    let read = arguments-is (suc (length text)) false text args n (omega arith) (λ (no_way : false ≡ true). cc) e in
    let again : arguments_from 0 (read.front ++ 41 ∷ []) ≡ Ok (args, length read.front + 1) = (arguments-read read.written []).reads in
    let size : length (read.front ++ 41 ∷ []) ≡ n = length-append read.front (41 ∷ []) ∙ read.size in
    let split : text ≡ (read.front ++ 41 ∷ []) ++ read.back = read.split ∙ sym (append_assoc read.front (41 ∷ []) read.back) in
    let cut : take n text ≡ read.front ++ 41 ∷ [] = ap (λ t. take n t) split ∙ take_at (read.front ++ 41 ∷ []) read.back n size in
    let P : ℕ → Result (List Arg × ℕ) Stop = λ k. Ok (args, k) in
    ap (λ t. arguments_from 0 t) cut ∙ again ∙ ap P read.size

pub bytes_read-ok : {A : Type 0} (n : ℕ) (read : Result (List A × ℕ) Stop) → bytes_read read ≡ Ok n → read ≡ Ok (list_read read, n)
bytes_read-ok n (Err stop) e = cc
bytes_read-ok {A} n (Ok x) e =
    let same : x.1 ≡ n = cc in
    let P : ℕ → Result (List A × ℕ) Stop = λ k. Ok (x.0, k) in
    ap P same

-- the copy of a text has the same arguments, of n bytes
pub record IsKept (text copy : List ℕ) (n : ℕ) : Type 0 where
  pub begins : BeginsArguments copy
  pub same : arguments_from 0 text ≡ Ok (arguments_in copy, n)

pub arguments-kept : (text copy : List ℕ) (n : ℕ) → bytes_read (arguments_from 0 text) ≡ Ok n → copy ≡ take n text → IsKept text copy n
arguments-kept text copy n e cut =
    let read = bytes_read-ok n (arguments_from 0 text) e in
    let again : arguments_from 0 copy ≡ Ok (arguments_in text, n) = ap (λ t. arguments_from 0 t) cut ∙ arguments-cut text (arguments_in text) n read in
    let args : arguments_in copy ≡ arguments_in text = ap (λ r. list_read r) again in
    let P : List Arg → Result (List Arg × ℕ) Stop = λ a. Ok (a, n) in
    record { begins = ap (λ r. is_ok r) again; same = read ∙ ap P (sym args) }

-- a text that begins with a gap does not begin with a `)`
pub gap-no-close : (text : List ℕ) (n : ℕ) → 0 < n → gap_at text ≡ Ok n → (get_or text 0 0 == 41) ≡ false
gap-no-close [] n some gap = refl
gap-no-close (byte ∷ rest) n some gap = by_close (byte == 41) refl
  where
    by_close : (test : Bool) → (byte == 41) ≡ test → (byte == 41) ≡ false
    by_close false t = t
    by_close true t =
        let close : byte ≡ 41 = grind (arith, nat_tests) in
        let none : gap_at (byte ∷ rest) ≡ Ok 0 = ap (λ b. gap_at (b ∷ rest)) close in
        let no : 0 ≡ n = cc in
        absurd (omega arith)

-- one turn of the loop over the gaps in front of an argument
pub front_turn : (text : List ℕ) (at n : ℕ) → at < length text → gap_at (drop at text) ≡ Ok n → 0 < n → n ≤ length (drop at text) → moved at (arguments_from 0 (drop at text)) ≡ arguments_from 0 text → (at + n ≤ length text) × (moved (at + n) (arguments_from 0 (drop (at + n) text)) ≡ arguments_from 0 text)
front_turn text at n inside gap some fits kept =
    (omega (arith, length-drop at text), gap_passed text at n (gap-no-close (drop at text) n some gap) gap some fits ∙ kept)

argument-refused : (text : List ℕ) (stop : Stop) → 0 < length text → (get_or text 0 0 == 41) ≡ false → gap_at text ≡ Ok 0 → argument text ≡ Err stop → arguments_from 0 text ≡ Err stop
argument-refused [] stop some goes gap read = absurd (omega arith)
argument-refused (byte ∷ rest) stop some goes gap read = rw (goes, gap, read) refl

-- where arguments begin with neither a gap nor a `)`, an argument stands at their front
pub argument-found : (text : List ℕ) (at : ℕ) → BeginsArguments text → at < length text → (get_or text at 0 == 41) ≡ false → gap_at (drop at text) ≡ Ok 0 → moved at (arguments_from 0 (drop at text)) ≡ arguments_from 0 text → IsOk (argument (drop at text))
argument-found text at begins inside goes gap kept = by_read (argument (drop at text)) refl
  where
    by_read : (read : Result (Arg × ℕ) Stop) → argument (drop at text) ≡ read → IsOk (argument (drop at text))
    by_read (Ok x) r = ap (λ q. is_ok q) r
    by_read (Err stop) r =
        let none : arguments_from 0 (drop at text) ≡ Err stop = argument-refused (drop at text) stop (omega (arith, length-drop at text)) (first-byte text at goes) gap r in
        let refused : is_ok (moved at (arguments_from 0 (drop at text))) ≡ false = rw none refl in
        absurd (true≢false (sym begins ∙ ap (λ q. is_ok q) (sym kept) ∙ refused))

-- an argument that is found is also read without the check of what stands behind it
pub argument-read_by : (text : List ℕ) → IsOk (argument text) → IsOk (argument_by text (opening text))
argument-read_by text found = by_read (argument_by text (opening text)) refl
  where
    by_read : (read : Result (Arg × ℕ) Stop) → argument_by text (opening text) ≡ read → IsOk (argument_by text (opening text))
    by_read (Ok x) r = ap (λ q. is_ok q) r
    by_read (Err stop) r =
        let none : argument text ≡ Err stop = rw r refl in
        absurd (true≢false (sym found ∙ ap (λ q. is_ok q) none))

-- if a quoted argument is found, its text is read
pub quoted-found : (text : List ℕ) → IsOk (plain_argument text) → stands 34 0 text ≡ true → IsOk (text_from Quoted 0 (drop 1 text))
quoted-found text found quote = by_paren (stands 40 0 text) refl
  where
    not_found : is_ok (plain_argument text) ≡ false → IsOk (text_from Quoted 0 (drop 1 text))
    not_found none = absurd (true≢false (sym found ∙ none))

    by_read : stands 40 0 text ≡ false → (read : Result (List Part × ℕ) Stop) → text_from Quoted 0 (drop 1 text) ≡ read → IsOk (text_from Quoted 0 (drop 1 text))
    by_read p (Ok x) r = ap (λ q. is_ok q) r
    by_read p (Err Ended) r = not_found (rw (p, quote, r) refl)
    by_read p (Err (At cause left)) r = not_found (rw (p, quote, r) refl)

    by_paren : (test : Bool) → stands 40 0 text ≡ test → IsOk (text_from Quoted 0 (drop 1 text))
    by_paren true p = not_found (rw p refl)
    by_paren false p = by_read p (text_from Quoted 0 (drop 1 text)) refl

-- no other argument touches an argument that is found
argument-apart : (text : List ℕ) (x : Arg × ℕ) → IsOk (argument text) → argument_by text (opening text) ≡ Ok x → argument text ≡ Ok x
argument-apart text x found read = by_follow (may_follow (drop x.1 text)) refl
  where
    by_follow : (test : Bool) → may_follow (drop x.1 text) ≡ test → argument text ≡ Ok x
    by_follow true t = rw (read, t) refl
    by_follow false t =
        let none : is_ok (argument text) ≡ false = rw (read, t) refl in
        absurd (true≢false (sym found ∙ none))

argument-goes : (text : List ℕ) → HasNoGap text → 0 < length text → (get_or text 0 0 == 41) ≡ false → may_follow text ≡ false
argument-goes [] front some goes = absurd (omega arith)
argument-goes (byte ∷ rest) (inl none) some goes = cc
argument-goes (byte ∷ rest) (inr (inl close)) some goes = absurd (true≢false (sym close ∙ stands-front 41 byte rest ∙ goes))
argument-goes (byte ∷ rest) (inr (inr follows)) some goes = follows

argument-longer : (text : List ℕ) (arg : Arg) (n : ℕ) → may_follow text ≡ false → argument text ≡ Ok (arg, n) → 0 < n
argument-longer [] arg n goes read = absurd (true≢false goes)
argument-longer (byte ∷ rest) arg n goes read =
    let found = argument-is byte rest arg n goes read in
    subst (λ (k : ℕ). 0 < k) found.size (argument-some found.written)

-- the argument behind the gaps at the front is the first one
pub argument-taken : (text : List ℕ) (arg : Arg) (at n : ℕ) → BeginsArguments text → at < length text → (get_or text at 0 == 41) ≡ false → gap_at (drop at text) ≡ Ok 0 → HasNoGap (drop at text) → argument_by (drop at text) (opening (drop at text)) ≡ Ok (arg, n) → n ≤ length (drop at text) → moved at (arguments_from 0 (drop at text)) ≡ arguments_from 0 text → (at + n ≤ length text) × (arguments_from 0 text ≡ argument_before arg (moved (at + n) (arguments_from 0 (drop (at + n) text))))
argument-taken text arg at n begins inside goes gap front read fits kept =
    let first = first-byte text at goes in
    let whole : argument (drop at text) ≡ Ok (arg, n) = argument-apart (drop at text) (arg, n) (argument-found text at begins inside goes gap kept) read in
    let some : 0 < n = argument-longer (drop at text) arg n (argument-goes (drop at text) front (omega (arith, length-drop at text)) first) whole in
    (omega (arith, length-drop at text), sym kept ∙ argument_passed text arg at n first gap whole some fits)

-- if n bytes were read, something that takes n bytes was read
something-read : {A : Type 0} (n : ℕ) (read : Result (A × ℕ) Stop) → bytes_read read ≡ Ok n → (x : A) × (read ≡ Ok (x, n))
something-read n (Err stop) e = cc
something-read {A} n (Ok x) e =
    let same : x.1 ≡ n = cc in
    let P : ℕ → Result (A × ℕ) Stop = λ k. Ok (x.0, k) in
    (x.0, ap P same)

nothing-read : {A : Type 0} (stop : Stop) (read : Result (A × ℕ) Stop) → bytes_read read ≡ Err stop → read ≡ Err stop
nothing-read {A} stop (Err other) e =
    let same : other ≡ stop = cc in
    let P : Stop → Result (A × ℕ) Stop = λ why. Err why in
    ap P same
nothing-read stop (Ok x) e = cc

-- one turn of the loop that counts the bytes of arguments
pub counted_turn : (text : List ℕ) (at n : ℕ) (whole : Result ℕ Stop) → at < length text → (get_or text at 0 == 41) ≡ false → gap_at (drop at text) ≡ Ok 0 → bytes_read (argument (drop at text)) ≡ Ok n → 0 < n → n ≤ length (drop at text) → bytes_read (moved at (arguments_from 0 (drop at text))) ≡ whole → (at + n ≤ length text) × (bytes_read (moved (at + n) (arguments_from 0 (drop (at + n) text))) ≡ whole)
counted_turn text at n whole inside goes gap read some fits kept =
    let found = something-read n (argument (drop at text)) read in
    argument_turn text at n found.0 whole inside goes gap found.1 some fits kept

-- the fault of an argument is the fault of the arguments
pub counted-refused : (text : List ℕ) (at : ℕ) (stop : Stop) (whole : Result ℕ Stop) → at < length text → (get_or text at 0 == 41) ≡ false → gap_at (drop at text) ≡ Ok 0 → bytes_read (argument (drop at text)) ≡ Err stop → bytes_read (moved at (arguments_from 0 (drop at text))) ≡ whole → Err stop ≡ whole
counted-refused text at stop whole inside goes gap read kept =
    let refused = argument-refused (drop at text) stop (omega (arith, length-drop at text)) (first-byte text at goes) gap (nothing-read stop (argument (drop at text)) read) in
    sym (ap (λ r. bytes_read (moved at r)) refused) ∙ kept

-- an argument takes n bytes, if what stands behind them may follow an argument
pub bytes_read-apart : (text : List ℕ) (n : ℕ) → bytes_read (argument_by text (opening text)) ≡ Ok n → may_follow (drop n text) ≡ true → bytes_read (argument text) ≡ Ok n
bytes_read-apart text n read follows =
    let found = something-read n (argument_by text (opening text)) read in
    rw (found.1, follows) refl

pub bytes_read-touched : (text : List ℕ) (n : ℕ) → bytes_read (argument_by text (opening text)) ≡ Ok n → may_follow (drop n text) ≡ false → bytes_read (argument text) ≡ refused BadChar (drop n text)
bytes_read-touched text n read touches =
    let found = something-read n (argument_by text (opening text)) read in
    rw (found.1, touches) refl

pub bytes_read-refused : (text : List ℕ) (stop : Stop) → bytes_read (argument_by text (opening text)) ≡ Err stop → bytes_read (argument text) ≡ Err stop
bytes_read-refused text stop read =
    let none = nothing-read stop (argument_by text (opening text)) read in
    rw none refl
