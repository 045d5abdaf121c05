-- One step of a reading: a definition that skips the bytes of the first item reads the text behind them.
use Rattle.std.proofs.Common.{◌≡◌, ℕ, zero, suc, ◌+◌, ◌-◌, ◌<◌, ◌≤◌, Bool, false, not, ◌&&◌, ◌==◌, List, [], ◌∷◌, length, get_or, drop, Option, Some, None, Result, Ok, Err, refl, sym, ap, ◌∙◌, arith, add_assoc, add_comm, add-zero, add-one, length-drop}
use Rattle.std.proofs.lemmas.List.{get_or-drop, drop-drop}
use Rattle.std.proofs.lemmas.Bool.Decides.{nat_tests}
use Rattle.ct_lex.specs.Argument.{with_piece, ends_text}
use Rattle.ct_lex.specs.Joined.{joined_parts}
use Rattle.ct_lex.specs.declared.parts.Parts.{Parts}
use Rattle.ct_lex.proofs.Reading.{parts_behind}
use Rattle.ct_lex.specs.Bracket.{gap_at}
use Rattle.ct_lex.specs.Extent.{bytes_read}
use Rattle.ct_lex.specs.Unit.{unit_at}
use Rattle.ct_lex.specs.Text.{moved, piece_before, text_from, argument, argument_before, arguments_from}
use Rattle.ct_lex.specs.Command.{shifted, start_from}
use Rattle.ct_lex.specs.declared.call.Arg.{Arg}
use Rattle.ct_lex.specs.declared.call.ArgKind.{ArgKind}
use Rattle.ct_lex.specs.declared.call.Part.{Part}
use Rattle.ct_lex.specs.declared.stop.Stop.{Stop}

pub moved-zero : {A : Type 0} (read : Result (A × ℕ) Stop) → moved 0 read ≡ read
moved-zero {A} (Ok x) = let P : ℕ → Result (A × ℕ) Stop = λ n. Ok (x.0, n) in ap P (add-zero x.1)
moved-zero (Err stop) = refl

pub moved-moved : {A : Type 0} (m n : ℕ) (read : Result (A × ℕ) Stop) → moved m (moved n read) ≡ moved (n + m) read
moved-moved {A} m n (Ok x) = let P : ℕ → Result (A × ℕ) Stop = λ k. Ok (x.0, k) in ap P (add_assoc x.1 n m)
moved-moved m n (Err stop) = refl

pub shifted-zero : (read : Result (Option ℕ) Stop) → shifted 0 read ≡ read
shifted-zero (Ok (Some n)) = let P : ℕ → Result (Option ℕ) Stop = λ k. Ok (Some k) in ap P (add-zero n)
shifted-zero (Ok None) = refl
shifted-zero (Err stop) = refl

pub shifted-shifted : (m n : ℕ) (read : Result (Option ℕ) Stop) → shifted m (shifted n read) ≡ shifted (n + m) read
shifted-shifted m n (Ok (Some k)) = let P : ℕ → Result (Option ℕ) Stop = λ j. Ok (Some j) in ap P (add_assoc k n m)
shifted-shifted m n (Ok None) = refl
shifted-shifted m n (Err stop) = refl

pub text_from-skip : (kind : ArgKind) (k : ℕ) (text : List ℕ) → text_from kind k text ≡ moved k (text_from kind 0 (drop k text))
text_from-skip kind zero text = sym (moved-zero (text_from kind 0 text))
text_from-skip kind (suc k) [] = refl
text_from-skip kind (suc k) (byte ∷ rest) =
    ap (λ r. moved 1 r) (text_from-skip kind k rest) ∙ moved-moved 1 k (text_from kind 0 (drop k rest)) ∙ ap (λ n. moved n (text_from kind 0 (drop k rest))) (add-one k)

pub arguments_from-skip : (k : ℕ) (text : List ℕ) → arguments_from k text ≡ moved k (arguments_from 0 (drop k text))
arguments_from-skip zero text = sym (moved-zero (arguments_from 0 text))
arguments_from-skip (suc k) [] = refl
arguments_from-skip (suc k) (byte ∷ rest) =
    ap (λ r. moved 1 r) (arguments_from-skip k rest) ∙ moved-moved 1 k (arguments_from 0 (drop k rest)) ∙ ap (λ n. moved n (arguments_from 0 (drop k rest))) (add-one k)

pub start_from-skip : (behind : Bool) (k : ℕ) (text : List ℕ) → start_from behind k text ≡ shifted k (start_from behind 0 (drop k text))
start_from-skip behind zero text = sym (shifted-zero (start_from behind 0 text))
start_from-skip behind (suc k) [] = refl
start_from-skip behind (suc k) (byte ∷ rest) =
    ap (λ r. shifted 1 r) (start_from-skip behind k rest) ∙ shifted-shifted 1 k (start_from behind 0 (drop k rest)) ∙ ap (λ n. shifted n (start_from behind 0 (drop k rest))) (add-one k)

-- a unit at the front of a text, then the parts behind it
pub text_from-step : (kind : ArgKind) (text : List ℕ) (piece : Part) (n : ℕ) → 0 < n → ends_text kind (get_or text 0 0) ≡ false → unit_at kind text ≡ Ok (piece, n) → text_from kind 0 text ≡ piece_before piece (moved n (text_from kind 0 (drop n text)))
text_from-step kind [] piece n positive goes_on unit = cc
text_from-step kind (byte ∷ rest) piece zero positive goes_on unit = absurd (omega arith)
text_from-step kind (byte ∷ rest) piece (suc k) positive goes_on unit =
    let less : suc k - 1 ≡ k = omega arith in
    rw (goes_on, unit, less) (ap (λ r. piece_before piece r) (text_from-skip kind (suc k) (byte ∷ rest)))

pub parts_behind-step : (old new : Parts) (at n : ℕ) (piece : Part) (read : Result (List Part × ℕ) Stop) → ((more : List Part) → joined_parts new more ≡ joined_parts old (with_piece piece more)) → parts_behind new (at + n) read ≡ parts_behind old at (piece_before piece (moved n read))
parts_behind-step old new at n piece (Err stop) grows = refl
parts_behind-step old new at n piece (Ok x) grows =
    let P : ℕ → Result (List Part × ℕ) Stop = λ k. Ok (joined_parts new x.0, k) in
    let Q : List Part → Result (List Part × ℕ) Stop = λ parts. Ok (parts, (x.1 + n) + at) in
    let e : x.1 + (at + n) ≡ (x.1 + n) + at = omega arith in
    ap P e ∙ ap Q (grows x.0)

-- one turn of the loop over the units of a text
pub text_turn : (kind : ArgKind) (text : List ℕ) (at n : ℕ) (old new : Parts) (piece : Part) (whole : Result (List Part × ℕ) Stop) → at < length text → ends_text kind (get_or text at 0) ≡ false → unit_at kind (drop at text) ≡ Ok (piece, n) → 0 < n → n ≤ length (drop at text) → ((more : List Part) → joined_parts new more ≡ joined_parts old (with_piece piece more)) → parts_behind old at (text_from kind 0 (drop at text)) ≡ whole → (at + n ≤ length text) × (parts_behind new (at + n) (text_from kind 0 (drop (at + n) text)) ≡ whole)
text_turn kind text at n old new piece whole inside goes_on unit positive fits grows kept =
    let first : ends_text kind (get_or (drop at text) 0 0) ≡ false = ap (λ byte. ends_text kind byte) (get_or-drop at text 0 0 ∙ ap (λ i. get_or text i 0) (add-zero at)) ∙ goes_on in (
      omega (arith, length-drop at text),
      parts_behind-step old new at n piece _ grows
          ∙ ap (λ rest. parts_behind old at (piece_before piece (moved n (text_from kind 0 rest)))) (sym (drop-drop n at text))
          ∙ ap (λ r. parts_behind old at r) (sym (text_from-step kind (drop at text) piece n positive first unit))
          ∙ kept,
    )

bytes_read-piece : (piece : Part) (at n : ℕ) (read : Result (List Part × ℕ) Stop) → bytes_read (moved (at + n) read) ≡ bytes_read (moved at (piece_before piece (moved n read)))
bytes_read-piece piece at n (Err stop) = refl
bytes_read-piece piece at n (Ok x) =
    let P : ℕ → Result ℕ Stop = λ k. Ok k in
    let e : x.1 + (at + n) ≡ (x.1 + n) + at = omega arith in
    ap P e

-- one turn of the loop that counts the bytes of a text
pub count_turn : (kind : ArgKind) (text : List ℕ) (at n : ℕ) (piece : Part) (whole : Result ℕ Stop) → at < length text → ends_text kind (get_or text at 0) ≡ false → unit_at kind (drop at text) ≡ Ok (piece, n) → 0 < n → n ≤ length (drop at text) → bytes_read (moved at (text_from kind 0 (drop at text))) ≡ whole → (at + n ≤ length text) × (bytes_read (moved (at + n) (text_from kind 0 (drop (at + n) text))) ≡ whole)
count_turn kind text at n piece whole inside goes_on unit positive fits kept =
    let first : ends_text kind (get_or (drop at text) 0 0) ≡ false = ap (λ byte. ends_text kind byte) (get_or-drop at text 0 0 ∙ ap (λ i. get_or text i 0) (add-zero at)) ∙ goes_on in (
      omega (arith, length-drop at text),
      bytes_read-piece piece at n _
          ∙ ap (λ rest. bytes_read (moved at (piece_before piece (moved n (text_from kind 0 rest))))) (sym (drop-drop n at text))
          ∙ ap (λ r. bytes_read (moved at r)) (sym (text_from-step kind (drop at text) piece n positive first unit))
          ∙ kept,
    )

-- a gap at the front of arguments, then the arguments behind it
pub arguments_from-gap : (text : List ℕ) (n : ℕ) → 0 < n → n ≤ length text → (get_or text 0 0 == 41) ≡ false → gap_at text ≡ Ok n → arguments_from 0 text ≡ moved n (arguments_from 0 (drop n text))
arguments_from-gap [] n positive fits goes_on gap = absurd (omega arith)
arguments_from-gap (byte ∷ rest) zero positive fits goes_on gap = absurd (omega arith)
arguments_from-gap (byte ∷ rest) (suc k) positive fits goes_on gap =
    let less : suc k - 1 ≡ k = omega arith in
    let nonzero : (suc k == 0) ≡ false = grind (arith, nat_tests) in
    rw (goes_on, gap, nonzero, less) (arguments_from-skip (suc k) (byte ∷ rest))

-- an argument at the front, then the arguments behind it
pub arguments_from-argument : (text : List ℕ) (arg : Arg) (n : ℕ) → 0 < n → n ≤ length text → (get_or text 0 0 == 41) ≡ false → gap_at text ≡ Ok 0 → argument text ≡ Ok (arg, n) → arguments_from 0 text ≡ argument_before arg (moved n (arguments_from 0 (drop n text)))
arguments_from-argument [] arg n positive fits goes_on gap read = absurd (omega arith)
arguments_from-argument (byte ∷ rest) arg zero positive fits goes_on gap read = absurd (omega arith)
arguments_from-argument (byte ∷ rest) arg (suc k) positive fits goes_on gap read =
    let less : suc k - 1 ≡ k = omega arith in
    rw (goes_on, gap, read, less) (ap (λ r. argument_before arg r) (arguments_from-skip (suc k) (byte ∷ rest)))

pub first-byte : (text : List ℕ) (at : ℕ) → (get_or text at 0 == 41) ≡ false → (get_or (drop at text) 0 0 == 41) ≡ false
first-byte text at goes_on = ap (λ byte. byte == 41) (get_or-drop at text 0 0 ∙ ap (λ i. get_or text i 0) (add-zero at)) ∙ goes_on

-- what is read from a place on is what is read behind the gap there
pub gap_passed : (text : List ℕ) (at n : ℕ) → (get_or (drop at text) 0 0 == 41) ≡ false → gap_at (drop at text) ≡ Ok n → 0 < n → n ≤ length (drop at text) → moved (at + n) (arguments_from 0 (drop (at + n) text)) ≡ moved at (arguments_from 0 (drop at text))
gap_passed text at n first gap positive fits =
    ap (λ k. moved k (arguments_from 0 (drop (at + n) text))) (add_comm at n)
    ∙ sym (moved-moved at n _)
    ∙ ap (λ rest. moved at (moved n (arguments_from 0 rest))) (sym (drop-drop n at text))
    ∙ ap (λ r. moved at r) (sym (arguments_from-gap (drop at text) n positive fits first gap))

-- behind an argument, two moves of an end are one move by their sum
pub argument_before-moved : (arg : Arg) (at n : ℕ) (read : Result (List Arg × ℕ) Stop) → moved at (argument_before arg (moved n read)) ≡ argument_before arg (moved (at + n) read)
argument_before-moved arg at n (Err stop) = refl
argument_before-moved arg at n (Ok x) =
    let P : ℕ → Result (List Arg × ℕ) Stop = λ k. Ok (arg ∷ x.0, k) in
    let e : (x.1 + n) + at ≡ x.1 + (at + n) = omega arith in
    ap P e

pub argument_passed : (text : List ℕ) (arg : Arg) (at n : ℕ) → (get_or (drop at text) 0 0 == 41) ≡ false → gap_at (drop at text) ≡ Ok 0 → argument (drop at text) ≡ Ok (arg, n) → 0 < n → n ≤ length (drop at text) → moved at (arguments_from 0 (drop at text)) ≡ argument_before arg (moved (at + n) (arguments_from 0 (drop (at + n) text)))
argument_passed text arg at n first gap read positive fits =
    ap (λ r. moved at r) (arguments_from-argument (drop at text) arg n positive fits first gap read)
    ∙ argument_before-moved arg at n _
    ∙ ap (λ rest. argument_before arg (moved (at + n) (arguments_from 0 rest))) (drop-drop n at text)

-- one turn of the loop over gaps and arguments that counts their bytes
pub gap_turn : (text : List ℕ) (at n : ℕ) (whole : Result ℕ Stop) → at < length text → (get_or text at 0 == 41) ≡ false → gap_at (drop at text) ≡ Ok n → 0 < n → n ≤ length (drop at text) → bytes_read (moved at (arguments_from 0 (drop at text))) ≡ whole → (at + n ≤ length text) × (bytes_read (moved (at + n) (arguments_from 0 (drop (at + n) text))) ≡ whole)
gap_turn text at n whole inside goes_on gap positive fits kept = (
  omega (arith, length-drop at text),
  ap (λ r. bytes_read r) (gap_passed text at n (first-byte text at goes_on) gap positive fits) ∙ kept,
)

bytes_read-before : (arg : Arg) (read : Result (List Arg × ℕ) Stop) → bytes_read (argument_before arg read) ≡ bytes_read read
bytes_read-before arg (Err stop) = refl
bytes_read-before arg (Ok x) = refl

pub argument_turn : (text : List ℕ) (at n : ℕ) (arg : Arg) (whole : Result ℕ Stop) → at < length text → (get_or text at 0 == 41) ≡ false → gap_at (drop at text) ≡ Ok 0 → argument (drop at text) ≡ Ok (arg, n) → 0 < n → n ≤ length (drop at text) → bytes_read (moved at (arguments_from 0 (drop at text))) ≡ whole → (at + n ≤ length text) × (bytes_read (moved (at + n) (arguments_from 0 (drop (at + n) text))) ≡ whole)
argument_turn text at n arg whole inside goes_on gap read positive fits kept = (
  omega (arith, length-drop at text),
  sym (bytes_read-before arg _)
      ∙ ap (λ r. bytes_read r) (sym (argument_passed text arg at n (first-byte text at goes_on) gap read positive fits))
      ∙ kept,
)

-- a gap in front of a command, then what stands behind it
pub start_from-step : (behind : Bool) (text : List ℕ) (n : ℕ) → 0 < n → n ≤ length text → gap_at text ≡ Ok n → start_from behind 0 text ≡ shifted n (start_from (behind && not (get_or text 0 0 == 10)) 0 (drop n text))
start_from-step behind [] n positive fits gap = absurd (omega arith)
start_from-step behind (byte ∷ rest) zero positive fits gap = absurd (omega arith)
start_from-step behind (byte ∷ rest) (suc k) positive fits gap =
    let less : suc k - 1 ≡ k = omega arith in
    let nonzero : (suc k == 0) ≡ false = grind (arith, nat_tests) in
    rw (gap, nonzero, less) (start_from-skip (behind && not (byte == 10)) (suc k) (byte ∷ rest))

pub start_turn : (text : List ℕ) (at n : ℕ) (behind : Bool) (whole : Result (Option ℕ) Stop) → at < length text → gap_at (drop at text) ≡ Ok n → 0 < n → n ≤ length (drop at text) → shifted at (start_from behind 0 (drop at text)) ≡ whole → (at + n ≤ length text) × (shifted (at + n) (start_from (behind && not (get_or text at 0 == 10)) 0 (drop (at + n) text)) ≡ whole)
start_turn text at n behind whole inside gap positive fits kept =
    let first : get_or (drop at text) 0 0 ≡ get_or text at 0 = get_or-drop at text 0 0 ∙ ap (λ i. get_or text i 0) (add-zero at) in (
      omega (arith, length-drop at text),
      ap (λ k. shifted k (start_from (behind && not (get_or text at 0 == 10)) 0 (drop (at + n) text))) (add_comm at n)
          ∙ sym (shifted-shifted at n _)
          ∙ ap (λ rest. shifted at (shifted n (start_from (behind && not (get_or text at 0 == 10)) 0 rest))) (sym (drop-drop n at text))
          ∙ ap (λ byte. shifted at (shifted n (start_from (behind && not (byte == 10)) 0 (drop n (drop at text))))) (sym first)
          ∙ ap (λ r. shifted at r) (sym (start_from-step behind (drop at text) n positive fits gap))
          ∙ kept,
    )
