-- Texts of lines, the places of bytes in them, and numbers as digits.
use Rattle.std.proofs.Common.{◌≡◌, ◌≢◌, ◌∙◌, ap, refl, ℕ, zero, suc, ◌+◌, ◌/◌, ◌%◌, ◌<◌, ◌≤◌, Bool, true, false, cond, List, [], ◌∷◌, ◌++◌, length, take, drop, All, Some, None, arith, append_assoc, length-append, codes}
use Rattle.std.specs.Prelude.{◌==◌, not, flat_map, position, nat_lt, decimal}
use Rattle.std.specs.Char.{is_ascii_digit}
use Rattle.std.specs.Fmt.{digit_glyph, digits, digits_onto}
use Rattle.std.specs.List.{after_first, before_first, list_all, position_or_len, slice_split}
use Rattle.std.proofs.Math.Seq.{drop-append-add, get_or-append_seam, take-append_seam}
use Rattle.std.proofs.lemmas.Bool.{and_from, and_parts, cond_both, leb-true, lt-ltb, ne_eqb}
use Rattle.std.proofs.lemmas.Bool.Decides.{nat_tests}
use Rattle.std.proofs.lemmas.List.{get_or_append_left}
use Rattle.std.proofs.lemmas.List.Elements.{All-cons, All-head, All-nil, All-tail}
use Rattle.std.proofs.lemmas.List.Splits.{slice_split_at}
use Rattle.std.proofs.lemmas.List.Sums.{position_or_len_is}
use Rattle.std.proofs.lemmas.Nat.{mod_below}
use Rattle.ct_base.specs.Bytes.{line_feed}
use Rattle.ct_base.specs.Seconds.{is_numeral}

-- no element passes the test
abbrev pub NonePass : (ℕ → Bool) → List ℕ → Type 0
NonePass p xs = All (λ x. p x ≡ false) xs

-- bytes that are not this one do not pass the test for it
pub none_is : (byte : ℕ) (xs : List ℕ) → All (λ x. x ≢ byte) xs → NonePass (λ x. x == byte) xs
none_is byte xs other k d less = ne_eqb _ byte (other k d less)

-- a line, as a text
abbrev pub line_text : List ℕ → List ℕ
line_text line = line ++ codes "\n"

abbrev pub is_feed : ℕ → Bool
is_feed byte = byte == line_feed

-- the lines of a text of lines
pub split_lines : (lines : List (List ℕ)) (rest : List ℕ) → All (NonePass is_feed) lines → slice_split is_feed (flat_map line_text lines ++ rest) ≡ lines ++ slice_split is_feed rest
split_lines [] rest none = refl
split_lines (line ∷ lines) rest none =
    let more = flat_map line_text lines in
    ap (slice_split is_feed) (append_assoc (line ++ codes "\n") more rest ∙ append_assoc line (codes "\n") (more ++ rest))
    ∙ slice_split_at is_feed line line_feed (more ++ rest) (All-head (NonePass is_feed) line lines none) refl
    ∙ ap (λ ls. line ∷ ls) (split_lines lines rest (All-tail (NonePass is_feed) line lines none))

-- a text that is cut at the first element that passes
module _ {A : Type 0} (p : A → Bool) (front : List A) (y : A) (back : List A) (none : All (λ x. p x ≡ false) front) (yes : p y ≡ true) where
  place_at : position_or_len p (front ++ y ∷ back) ≡ length front
  place_at =
      position_or_len_is p (front ++ y ∷ back) (length front) y (omega (arith, length-append front (y ∷ back)))
      (λ k less. ap p (get_or_append_left front (y ∷ back) y k less) ∙ none k y less)
      (λ less. ap p (get_or-append_seam front y back y) ∙ yes)

  pub position_at : position p (front ++ y ∷ back) ≡ Some (length front)
  position_at =
      let len : length (front ++ y ∷ back) ≡ length front + length (y ∷ back) = length-append front (y ∷ back) in
      ap (λ n. cond (nat_lt n (length (front ++ y ∷ back))) (Some n) None) place_at
      ∙ ap (λ b. cond b (Some (length front)) None) (lt-ltb (length front) (length (front ++ y ∷ back)) (omega arith))

  pub before_at : before_first p (front ++ y ∷ back) ≡ front
  before_at = ap (λ n. take n (front ++ y ∷ back)) place_at ∙ take-append_seam front (y ∷ back)

  pub after_at : after_first p (front ++ y ∷ back) ≡ back
  after_at = ap (λ n. drop (n + 1) (front ++ y ∷ back)) place_at ∙ drop-append-add front (y ∷ back) 1

-- what holds of each digit holds of each byte of a text of digits
pub all_digits : (P : ℕ → Type 0) → ((byte : ℕ) → 48 ≤ byte → byte ≤ 57 → P byte) → (xs : List ℕ) → list_all is_ascii_digit xs ≡ true → All P xs
all_digits P holds [] all = All-nil P
all_digits P holds (x ∷ xs) all =
    let both = and_parts (is_ascii_digit x) (list_all is_ascii_digit xs) all in
    let ends = and_parts _ _ both.0 in
    All-cons P x xs (holds x (leb-true 48 x ends.0) (leb-true x 57 ends.1)) (all_digits P holds xs both.1)

-- a byte that is no digit is not in a text of digits
pub no_digit : (byte : ℕ) → byte < 48 → (xs : List ℕ) → list_all is_ascii_digit xs ≡ true → NonePass (λ x. x == byte) xs
no_digit byte less xs all = all_digits (λ x. (x == byte) ≡ false) (λ x least most. ne_eqb x byte (λ is. absurd (omega arith))) xs all

pub no_colon : (xs : List ℕ) → list_all is_ascii_digit xs ≡ true → NonePass (λ x. x == 58) xs
no_colon xs all = all_digits (λ x. (x == 58) ≡ false) (λ x least most. ne_eqb x 58 (λ is. absurd (omega arith))) xs all

-- the digit of a number below ten
pub digit_of : (d : ℕ) → d < 10 → is_ascii_digit (48 + d) ≡ true
digit_of d less = grind (arith, nat_tests)

glyph_of : (d : ℕ) → d < 10 → is_ascii_digit (digit_glyph false d) ≡ true
glyph_of d less = ap (λ b. is_ascii_digit (cond b (48 + d) (87 + d))) (lt-ltb d 10 less) ∙ digit_of d less

onto_digits : (k n : ℕ) (acc : List ℕ) → list_all is_ascii_digit acc ≡ true → list_all is_ascii_digit (digits_onto k 10 false n acc) ≡ true
onto_digits zero n acc all = all
onto_digits (suc k) n acc all =
    let glyph = digit_glyph false (n % 10) in
    let more : list_all is_ascii_digit (glyph ∷ acc) ≡ true = and_from (is_ascii_digit glyph) (list_all is_ascii_digit acc) (glyph_of (n % 10) (mod_below n 10 (omega arith))) all in
    cond_both (n / 10 == 0) (glyph ∷ acc) (digits_onto k 10 false (n / 10) (glyph ∷ acc)) (λ xs. list_all is_ascii_digit xs ≡ true) (λ last. more)
    (λ later. onto_digits k (n / 10) (glyph ∷ acc) more)

onto_some : (k n : ℕ) (acc : List ℕ) → 0 < length acc → 0 < length (digits_onto k 10 false n acc)
onto_some zero n acc some = some
onto_some (suc k) n acc some =
    let glyph = digit_glyph false (n % 10) in
    cond_both (n / 10 == 0) (glyph ∷ acc) (digits_onto k 10 false (n / 10) (glyph ∷ acc)) (λ xs. 0 < length xs) (λ last. omega arith)
    (λ later. onto_some k (n / 10) (glyph ∷ acc) (omega arith))

onto_first : (k n : ℕ) → 0 < length (digits_onto (suc k) 10 false n [])
onto_first k n =
    let glyph = digit_glyph false (n % 10) in
    cond_both (n / 10 == 0) (glyph ∷ []) (digits_onto k 10 false (n / 10) (glyph ∷ [])) (λ xs. 0 < length xs) (λ last. omega arith)
    (λ later. onto_some k (n / 10) (glyph ∷ []) (omega arith))

-- a number is written with digits alone
pub decimal_digits : (n : ℕ) → list_all is_ascii_digit (decimal n) ≡ true
unfolding digits
decimal_digits n = onto_digits 64 n [] refl

decimal_some : (n : ℕ) → 0 < length (decimal n)
unfolding digits
decimal_some n = onto_first 63 n

pub not_empty : (xs : List ℕ) → 0 < length xs → not (length xs == 0) ≡ true
not_empty xs some = ap not (ne_eqb (length xs) 0 (λ is. absurd (omega arith)))

pub decimal_numeral : (n : ℕ) → is_numeral (decimal n) ≡ true
decimal_numeral n = and_from (not (length (decimal n) == 0)) (list_all is_ascii_digit (decimal n)) (not_empty (decimal n) (decimal_some n)) (decimal_digits n)
