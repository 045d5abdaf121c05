-- A run of bytes that stand for themselves at the front of the text of an argument,
-- and the reading behind it.
use Rattle.std.proofs.Common.{◌≡◌, ℕ, suc, ◌+◌, ◌<◌, ◌≤◌, Bool, true, false, ◌||◌, ◌==◌, List, [], ◌∷◌, ◌++◌, length, get_or, take, drop, Result, Ok, Err, refl, sym, ap, subst, ◌∙◌, arith, add-zero, length-drop}
use Rattle.std.proofs.lemmas.Bool.{or_parts}
use Rattle.std.proofs.lemmas.List.{get_or-drop, drop-drop}
use Rattle.std.proofs.lemmas.List.Sums.{prefix_len-le-length}
use Rattle.std.specs.List.{prefix_len}
use Rattle.ct_lex.specs.Argument.{ends_text, is_plain, with_bytes}
use Rattle.ct_lex.specs.Extent.{bytes_read}
use Rattle.ct_lex.specs.Joined.{joined_parts}
use Rattle.ct_lex.specs.Text.{moved, piece_before, text_from}
use Rattle.ct_lex.specs.Unit.{unit_at}
use Rattle.ct_lex.specs.declared.call.ArgKind.{ArgKind}
use Rattle.ct_lex.specs.declared.call.Part.{Part}
use Rattle.ct_lex.specs.declared.call.Part.TheVariants.{Bytes, Ref}
use Rattle.ct_lex.specs.declared.parts.Parts.{Parts}
use Rattle.ct_lex.specs.declared.stop.Stop.{Stop}
use Rattle.ct_lex.proofs.Reading.{parts_behind}
use Rattle.ct_lex.proofs.FrontLemmas.{not_true}
use Rattle.ct_lex.proofs.StepLemmas.{text_from-step}

pub with_bytes-join : (byte : ℕ) (bytes : List ℕ) (parts : List Part) → with_bytes (byte ∷ []) (with_bytes bytes parts) ≡ with_bytes (byte ∷ bytes) parts
with_bytes-join byte [] [] = refl
with_bytes-join byte [] (Bytes more ∷ parts) = refl
with_bytes-join byte [] (Ref name ∷ parts) = refl
with_bytes-join byte (next ∷ bytes) [] = refl
with_bytes-join byte (next ∷ bytes) (Bytes more ∷ parts) = refl
with_bytes-join byte (next ∷ bytes) (Ref name ∷ parts) = refl

-- putting bytes in front of parts at once, or in two pieces, is the same
pub bytes_joined : (front back : List ℕ) (parts : List Part) → with_bytes (front ++ back) parts ≡ with_bytes front (with_bytes back parts)
bytes_joined [] back parts = refl
bytes_joined (byte ∷ front) back parts =
    sym (with_bytes-join byte (front ++ back) parts)
    ∙ ap (λ ps. with_bytes (byte ∷ []) ps) (bytes_joined front back parts)
    ∙ with_bytes-join byte front (with_bytes back parts)

-- no bytes in front change nothing
nothing_before : (read : Result (List Part × ℕ) Stop) → read ≡ piece_before (Bytes []) (moved 0 read)
nothing_before (Ok x) = let P : ℕ → Result (List Part × ℕ) Stop = λ n. Ok (x.0, n) in ap P (sym (add-zero x.1))
nothing_before (Err stop) = refl

-- one byte in front of a run is a longer run
byte_before : (byte : ℕ) (run : List ℕ) (n : ℕ) (read : Result (List Part × ℕ) Stop) → piece_before (Bytes (byte ∷ [])) (moved 1 (piece_before (Bytes run) (moved n read))) ≡ piece_before (Bytes (byte ∷ run)) (moved (suc n) read)
byte_before byte run n (Err stop) = refl
byte_before byte run n (Ok x) =
    let P : ℕ → Result (List Part × ℕ) Stop = λ k. Ok (with_bytes (byte ∷ []) (with_bytes run x.0), k) in
    let Q : List Part → Result (List Part × ℕ) Stop = λ parts. Ok (parts, x.1 + suc n) in
    let e : (x.1 + n) + 1 ≡ x.1 + suc n = omega arith in
    ap P e ∙ ap Q (with_bytes-join byte run x.0)

-- the first n bytes are read as one piece, in front of what is read behind them
abbrev IsRun : ArgKind → List ℕ → ℕ → Type 0
IsRun kind text n = text_from kind 0 text ≡ piece_before (Bytes (take n text)) (moved n (text_from kind 0 (drop n text)))

-- the run of plain bytes at the front is read as one piece
pub text_from-run : (kind : ArgKind) (text : List ℕ) (n : ℕ) → n ≡ prefix_len (is_plain kind) text → IsRun kind text n
text_from-run kind [] n is = ap (λ k. piece_before (Bytes (take k [])) (moved k (text_from kind 0 (drop k [])))) (sym is)
text_from-run kind (byte ∷ rest) n is = by_plain (is_plain kind byte) refl (text_from-run kind rest (prefix_len (is_plain kind) rest) refl)
  where
    by_plain : (test : Bool) → is_plain kind byte ≡ test → IsRun kind rest (prefix_len (is_plain kind) rest) → IsRun kind (byte ∷ rest) n
    by_plain false t behind =
        let none : 0 ≡ n = sym (is ∙ rw t refl) in
        subst (λ (k : ℕ). IsRun kind (byte ∷ rest) k) none (nothing_before (text_from kind 0 (byte ∷ rest)))
    by_plain true t behind =
        let plain_so = or_parts (ends_text kind byte) (byte == 92 || byte == 36) (not_true (ends_text kind byte || (byte == 92 || byte == 36)) t) in
        let others = or_parts (byte == 92) (byte == 36) plain_so.1 in
        let unit : unit_at kind (byte ∷ rest) ≡ Ok (Bytes (byte ∷ []), 1) = rw (others.0, others.1) refl in
        let more : ℕ = prefix_len (is_plain kind) rest in
        let size : suc more ≡ n = sym (is ∙ rw t (let sums : 1 + more ≡ suc more = omega arith in sums)) in
        subst (λ (k : ℕ). IsRun kind (byte ∷ rest) k) size (
        text_from-step kind (byte ∷ rest) (Bytes (byte ∷ [])) 1 (omega arith) plain_so.0 unit
        ∙ ap (λ r. piece_before (Bytes (byte ∷ [])) (moved 1 r)) behind
        ∙ byte_before byte (take more rest) more (text_from kind 0 (drop more rest)))

-- at the byte that ends a text, nothing more is read
pub text-ended : (kind : ArgKind) (text : List ℕ) (at : ℕ) → at < length text → ends_text kind (get_or text at 0) ≡ true → text_from kind 0 (drop at text) ≡ Ok ([], 0)
text-ended kind text at inside ends =
    by_rest (drop at text) (omega (arith, length-drop at text)) (ap (λ byte. ends_text kind byte) (get_or-drop at text 0 0 ∙ ap (λ i. get_or text i 0) (add-zero at)) ∙ ends)
  where
    by_rest : (rest : List ℕ) → 0 < length rest → ends_text kind (get_or rest 0 0) ≡ true → text_from kind 0 rest ≡ Ok ([], 0)
    by_rest [] some e = absurd (omega arith)
    by_rest (byte ∷ rest) some e = rw e refl

bytes_read-run : (run : List ℕ) (at n : ℕ) (read : Result (List Part × ℕ) Stop) → bytes_read (moved (at + n) read) ≡ bytes_read (moved at (piece_before (Bytes run) (moved n read)))
bytes_read-run run at n (Err stop) = refl
bytes_read-run run at n (Ok x) =
    let P : ℕ → Result ℕ Stop = λ k. Ok k in
    let e : x.1 + (at + n) ≡ (x.1 + n) + at = omega arith in
    ap P e

run-fits : (kind : ArgKind) (text : List ℕ) (at n : ℕ) → at < length text → n ≡ prefix_len (is_plain kind) (drop at text) → at + n ≤ length text
run-fits kind text at n inside is =
    let fits : prefix_len (is_plain kind) (drop at text) ≤ length (drop at text) = prefix_len-le-length (is_plain kind) (drop at text) in
    omega (arith, length-drop at text)

-- one turn of the loop that counts the bytes of a text, over a run
pub count_run : (kind : ArgKind) (text : List ℕ) (at n : ℕ) (whole : Result ℕ Stop) → at < length text → n ≡ prefix_len (is_plain kind) (drop at text) → bytes_read (moved at (text_from kind 0 (drop at text))) ≡ whole → (at + n ≤ length text) × (bytes_read (moved (at + n) (text_from kind 0 (drop (at + n) text))) ≡ whole)
count_run kind text at n whole inside is kept = (
  run-fits kind text at n inside is,
  bytes_read-run (take n (drop at text)) at n _
      ∙ ap (λ rest. bytes_read (moved at (piece_before (Bytes (take n (drop at text))) (moved n (text_from kind 0 rest))))) (sym (drop-drop n at text))
      ∙ ap (λ r. bytes_read (moved at r)) (sym (text_from-run kind (drop at text) n is))
      ∙ kept,
)

parts_behind-run : (old new : Parts) (at n : ℕ) (run : List ℕ) (read : Result (List Part × ℕ) Stop) → ((more : List Part) → joined_parts new more ≡ joined_parts old (with_bytes run more)) → parts_behind new (at + n) read ≡ parts_behind old at (piece_before (Bytes run) (moved n read))
parts_behind-run old new at n run (Err stop) grows = refl
parts_behind-run old new at n run (Ok x) grows =
    let P : ℕ → Result (List Part × ℕ) Stop = λ k. Ok (joined_parts new x.0, k) in
    let Q : List Part → Result (List Part × ℕ) Stop = λ parts. Ok (parts, (x.1 + n) + at) in
    let e : x.1 + (at + n) ≡ (x.1 + n) + at = omega arith in
    ap P e ∙ ap Q (grows x.0)

-- one turn of the loop that makes the parts of a text, over a run
pub parts_run : (kind : ArgKind) (text : List ℕ) (at n : ℕ) (old new : Parts) (whole : Result (List Part × ℕ) Stop) → at < length text → n ≡ prefix_len (is_plain kind) (drop at text) → ((more : List Part) → joined_parts new more ≡ joined_parts old (with_bytes (take n (drop at text)) more)) → parts_behind old at (text_from kind 0 (drop at text)) ≡ whole → (at + n ≤ length text) × (parts_behind new (at + n) (text_from kind 0 (drop (at + n) text)) ≡ whole)
parts_run kind text at n old new whole inside is grows kept = (
  run-fits kind text at n inside is,
  parts_behind-run old new at n (take n (drop at text)) _ grows
      ∙ ap (λ rest. parts_behind old at (piece_before (Bytes (take n (drop at text))) (moved n (text_from kind 0 rest)))) (sym (drop-drop n at text))
      ∙ ap (λ r. parts_behind old at r) (sym (text_from-run kind (drop at text) n is))
      ∙ kept,
)

-- a text that is one run has that run as its one part
pub run_only : (kind : ArgKind) (text : List ℕ) (n : ℕ) (parts : List Part) → n < length text → n ≡ prefix_len (is_plain kind) text → ends_text kind (get_or text n 0) ≡ true → parts ≡ with_bytes (take n text) [] → text_from kind 0 text ≡ Ok (parts, n)
run_only kind text n parts inside is ends made =
    let behind : text_from kind 0 (drop n text) ≡ Ok ([], 0) = text-ended kind text n inside ends in
    let P : List Part → Result (List Part × ℕ) Stop = λ ps. Ok (ps, n) in
    let Q : ℕ → Result (List Part × ℕ) Stop = λ k. Ok (with_bytes (take n text) [], k) in
    let size : 0 + n ≡ n = omega arith in
    text_from-run kind text n is
    ∙ ap (λ r. piece_before (Bytes (take n text)) (moved n r)) behind
    ∙ ap Q size
    ∙ ap P (sym made)
