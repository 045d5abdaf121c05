-- Digits that are read one by one, while the number is limited to the greatest time.
use Rattle.std.proofs.Common.{ℕ, zero, suc, ◌+◌, ◌-◌, ◌*◌, ◌<◌, ◌≤◌, ◌≡◌, true, min, List, [], ◌∷◌, ◌++◌, take, drop, length, get_or, refl, sym, ap, ◌∙◌, arith, codes}
use Rattle.std.specs.List.{list_all}
use Rattle.std.specs.Int.{IsInRange}
use Rattle.std.specs.Char.{is_ascii_digit, digit_value}
use Rattle.std.specs.Str.Parse.{digits_value_after}
use Rattle.std.proofs.lemmas.Str.{digit_value_digit}
use Rattle.std.proofs.lemmas.List.{drop_more, take-append-le}
use Rattle.std.proofs.Math.Seq.{take-append-add}
use Rattle.std.proofs.lemmas.Bool.{and_parts, leb-true}
use Rattle.ct_base.specs.Seconds.{most_micros, six_decimals}

-- two numbers that agree up to the greatest time still agree after the same digits
same_behind : (n m : ℕ) (digits : List ℕ) → min n most_micros ≡ min m most_micros → min (digits_value_after 10 n digits) most_micros ≡ min (digits_value_after 10 m digits) most_micros
same_behind n m [] same = same
same_behind n m (digit ∷ digits) same = same_behind (n * 10 + digit_value digit) (m * 10 + digit_value digit) digits (omega (arith, same))

-- limiting a number before more digits are read does not change the limited result
pub kept_behind : (n : ℕ) (digits : List ℕ) → min (digits_value_after 10 (min n most_micros) digits) most_micros ≡ min (digits_value_after 10 n digits) most_micros
kept_behind n digits = same_behind (min n most_micros) n digits (omega arith)

-- digits in two pieces write the same number as in one
pub in_pieces : (n : ℕ) (one two : List ℕ) → digits_value_after 10 n (one ++ two) ≡ digits_value_after 10 (digits_value_after 10 n one) two
in_pieces n [] two = refl
in_pieces n (digit ∷ one) two = in_pieces (n * 10 + digit_value digit) one two

-- each byte of a text of digits is a digit
pub is_digit_at : (digits : List ℕ) (at : ℕ) → list_all is_ascii_digit digits ≡ true → at < length digits → IsInRange 48 57 (get_or digits at 0)
is_digit_at [] at all within = absurd (omega arith)
is_digit_at (digit ∷ digits) zero all within = let parts = and_parts _ _ (and_parts _ _ all).0 in (leb-true 48 digit parts.0, leb-true digit 57 parts.1)
is_digit_at (digit ∷ digits) (suc at) all within = is_digit_at digits at (and_parts _ _ all).1 (omega arith)

-- the next digit is read
pub reads_digit : (digits : List ℕ) (value at all : ℕ) → list_all is_ascii_digit digits ≡ true → at < length digits → min (digits_value_after 10 value (drop at digits)) most_micros ≡ all → min (digits_value_after 10 (min (value * 10 + (get_or digits at 0 - 48)) most_micros) (drop (at + 1) digits)) most_micros ≡ all
reads_digit digits value at all are within so_far =
    let is_one : digit_value (get_or digits at 0) ≡ get_or digits at 0 - 48 = omega (arith, digit_value_digit (get_or digits at 0) (is_digit_at digits at are within)) in
    let rest = drop (at + 1) digits in
    kept_behind (value * 10 + (get_or digits at 0 - 48)) rest ∙ ap (λ d. min (digits_value_after 10 (value * 10 + d) rest) most_micros) (sym is_one) ∙ ap (λ ds. min (digits_value_after 10 value ds) most_micros) (sym (drop_more digits at 0 within)) ∙ so_far

-- of six zeros, the first 6 - k are also the last 6 - k
zeros_left : (k : ℕ) → k < 6 → take (6 - k) (codes "000000") ≡ drop k (codes "000000")
zeros_left zero few = refl
zeros_left (suc zero) few = refl
zeros_left (suc (suc zero)) few = refl
zeros_left (suc (suc (suc zero))) few = refl
zeros_left (suc (suc (suc (suc zero)))) few = refl
zeros_left (suc (suc (suc (suc (suc zero))))) few = refl
zeros_left (suc (suc (suc (suc (suc (suc k)))))) few = absurd (omega arith)

-- fewer than six decimals are followed by zeros
pub few_decimals : (decimals : List ℕ) → length decimals < 6 → six_decimals decimals ≡ decimals ++ drop (length decimals) (codes "000000")
few_decimals decimals few =
    let six : 6 ≡ length decimals + (6 - length decimals) = omega arith in
    ap (λ n. take n (decimals ++ codes "000000")) six ∙ take-append-add decimals (codes "000000") (6 - length decimals) ∙ ap (λ zeros. decimals ++ zeros) (zeros_left (length decimals) few)

-- of six decimals or more, the first six count
pub many_decimals : (decimals : List ℕ) → 6 ≤ length decimals → six_decimals decimals ≡ take 6 decimals
many_decimals decimals many = take-append-le 6 decimals (codes "000000") many

-- the zeros behind k decimals are 6 - k
pub zeros_end : (k : ℕ) → k < 6 → take (6 - k) (drop k (codes "000000")) ≡ drop k (codes "000000")
zeros_end zero few = refl
zeros_end (suc zero) few = refl
zeros_end (suc (suc zero)) few = refl
zeros_end (suc (suc (suc zero))) few = refl
zeros_end (suc (suc (suc (suc zero)))) few = refl
zeros_end (suc (suc (suc (suc (suc zero))))) few = refl
zeros_end (suc (suc (suc (suc (suc (suc k)))))) few = absurd (omega arith)

pub zeros_are_digits : (k : ℕ) → k < 6 → list_all is_ascii_digit (drop k (codes "000000")) ≡ true
zeros_are_digits zero few = refl
zeros_are_digits (suc zero) few = refl
zeros_are_digits (suc (suc zero)) few = refl
zeros_are_digits (suc (suc (suc zero))) few = refl
zeros_are_digits (suc (suc (suc (suc zero)))) few = refl
zeros_are_digits (suc (suc (suc (suc (suc zero))))) few = refl
zeros_are_digits (suc (suc (suc (suc (suc (suc k)))))) few = absurd (omega arith)

-- digits in two pieces, with the number limited between them
pub kept_in_pieces : (n : ℕ) (one two : List ℕ) → min (digits_value_after 10 (min (digits_value_after 10 n one) most_micros) two) most_micros ≡ min (digits_value_after 10 n (one ++ two)) most_micros
kept_in_pieces n one two = kept_behind (digits_value_after 10 n one) two ∙ ap (λ m. min m most_micros) (sym (in_pieces n one two))
