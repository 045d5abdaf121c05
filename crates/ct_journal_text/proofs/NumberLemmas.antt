-- Numbers that were written in decimal are read as themselves.
use Rattle.std.proofs.Common.{ℕ, ℤ, pos, negsuc, neg_ℤ, zero, suc, ◌+◌, ◌-◌, ◌*◌, ◌^◌, ◌<◌, ◌≤◌, ◌≡◌, ◌==◌, min, not, ◌&&◌, Bool, true, false, cond, List, [], ◌∷◌, fold, refl, ap, ◌∙◌, arith, decimal}
use Rattle.std.specs.List.{list_all}
use Rattle.std.specs.Fmt.{signed_decimal}
use Rattle.std.specs.Char.{digit_value}
use Rattle.std.specs.Str.Parse.{AllDigits, IsNumeral, digits_value, digits_value_after}
use Rattle.std.proofs.Math.Dec.{ltb}
use Rattle.std.proofs.lemmas.Bool.{and_parts, lt-ltb, ltb-true, ne_eqb}
use Rattle.std.proofs.lemmas.Fmt.{decimal_is_IsNumeral}
use Rattle.std.proofs.lemmas.Str.{digit_value_digit}
use Rattle.std.proofs.lemmas.Str.Parse.{digit_from_value}
use Rattle.ct_journal_text.specs.Journal.{IsOf32Bits, IsCode}
use Rattle.ct_journal_text.specs.Guess.{with_digit, number_written, short_in, code_written}

-- digits behind a number make it no less
digits_up : (n : ℕ) (ds : List ℕ) → n ≤ digits_value_after 10 n ds
digits_up n [] = omega arith
digits_up n (d ∷ ds) = omega (arith, digits_up (n * 10 + digit_value d) ds)

-- digits are read one by one
number_after : (n : ℕ) (ds : List ℕ) → AllDigits 10 ds → digits_value_after 10 n ds < 2 ^ 64 → fold with_digit n ds ≡ digits_value_after 10 n ds
number_after n [] digits small = refl
number_after n (d ∷ ds) digits small =
    let up : n * 10 + digit_value d ≤ digits_value_after 10 (n * 10 + digit_value d) ds = digits_up (n * 10 + digit_value d) ds in
    let same : digit_value d + 48 ≡ d = digit_value_digit d (digit_from_value d digits.0) in
    let step : with_digit n d ≡ n * 10 + digit_value d = omega (arith, up, same, small) in
    ap (λ m. fold with_digit m ds) step ∙ number_after (n * 10 + digit_value d) ds digits.1 small

-- a number of 64 bits
pub number_again : (n : ℕ) → n < 2 ^ 64 → number_written (decimal n) ≡ n
number_again n small =
    let is : IsNumeral 10 (decimal n) × (digits_value 10 (decimal n) ≡ n) = decimal_is_IsNumeral n small in
    number_after 0 (decimal n) is.0.1 (omega (arith, is.1, small)) ∙ is.1

-- a number of 32 bits
pub short_again : (n : ℕ) → IsOf32Bits n → short_in (decimal n) ≡ n
short_again n small = omega (arith, number_again n (omega (arith, small)), small)

code_digits : (ds : List ℕ) → IsNumeral 10 ds → code_written ds ≡ pos (min (number_written ds) (2 ^ 31 - 1))
code_digits [] is = absurd (omega (arith, is.0))
code_digits (d ∷ ds) is =
    let digit = digit_from_value d is.1.0 in
    ap (λ b. cond b (neg_ℤ (pos (min (number_written ds) (2 ^ 31)))) (pos (min (number_written (d ∷ ds)) (2 ^ 31 - 1)))) (ne_eqb d 45 (λ e. omega (arith, digit.0, e)))

-- an exit code of 32 bits
pub code_again : (code : ℤ) → IsCode code → code_written (signed_decimal code) ≡ code
code_again (pos n) small =
    let again : number_written (decimal n) ≡ n = number_again n (omega (arith, small)) in
    let same : min (number_written (decimal n)) (2 ^ 31 - 1) ≡ n = omega (arith, again, small) in
    code_digits (decimal n) (decimal_is_IsNumeral n (omega (arith, small))).0 ∙ ap pos same
code_again (negsuc n) small =
    let again : number_written (decimal (suc n)) ≡ suc n = number_again (suc n) (omega (arith, small)) in
    let same : min (number_written (decimal (suc n))) (2 ^ 31) ≡ suc n = omega (arith, again, small) in
    ap (λ m. neg_ℤ (pos m)) same

-- a text without this byte
abbrev pub is_free : ℕ → List ℕ → Bool
is_free separator text = list_all (λ byte. not (byte == separator)) text

digits_free : (separator : ℕ) (ds : List ℕ) → separator < 48 → AllDigits 10 ds → is_free separator ds ≡ true
digits_free separator [] less digits = refl
digits_free separator (d ∷ ds) less digits =
    let digit = digit_from_value d digits.0 in
    ap (λ b. not b && is_free separator ds) (ne_eqb d separator (λ e. omega (arith, digit.0, less, e))) ∙ digits_free separator ds less digits.1

-- no byte below the digits stands in a number
pub decimal_free : (separator n : ℕ) → separator < 48 → n < 2 ^ 64 → is_free separator (decimal n) ≡ true
decimal_free separator n less small = digits_free separator (decimal n) less (decimal_is_IsNumeral n small).0.1

-- each byte of a text is above the space
abbrev pub is_spaceless : List ℕ → Bool
is_spaceless text = list_all (λ byte. ltb 32 byte) text

digits_spaceless : (ds : List ℕ) → AllDigits 10 ds → is_spaceless ds ≡ true
digits_spaceless [] digits = refl
digits_spaceless (d ∷ ds) digits =
    let digit = digit_from_value d digits.0 in
    ap (λ b. b && is_spaceless ds) (lt-ltb 32 d (omega (arith, digit.0))) ∙ digits_spaceless ds digits.1

-- no byte up to the space stands in a number
pub decimal_spaceless : (n : ℕ) → n < 2 ^ 64 → is_spaceless (decimal n) ≡ true
decimal_spaceless n small = digits_spaceless (decimal n) (decimal_is_IsNumeral n small).0.1

-- no byte up to the space stands in an exit code
pub code_spaceless : (code : ℤ) → IsCode code → is_spaceless (signed_decimal code) ≡ true
code_spaceless (pos n) small = decimal_spaceless n (omega (arith, small))
code_spaceless (negsuc n) small = decimal_spaceless (suc n) (omega (arith, small))

-- a text whose bytes are above the space is free of each byte up to it
pub spaceless_free : (separator : ℕ) (text : List ℕ) → separator ≤ 32 → is_spaceless text ≡ true → is_free separator text ≡ true
spaceless_free separator [] least above = refl
spaceless_free separator (byte ∷ text) least above =
    let parts = and_parts (ltb 32 byte) (is_spaceless text) above in
    let more : 32 < byte = ltb-true 32 byte parts.0 in
    ap (λ b. not b && is_free separator text) (ne_eqb byte separator (λ e. omega (arith, more, least, e))) ∙ spaceless_free separator text least parts.1

kept_small : (n : ℕ) (text : List ℕ) → n < 2 ^ 64 → fold with_digit n text < 2 ^ 64
kept_small n [] small = small
kept_small n (byte ∷ text) small = kept_small (with_digit n byte) text (omega arith)

-- what a text is taken for is a number of 64 bits
pub number_fits : (text : List ℕ) → number_written text < 2 ^ 64
number_fits text = kept_small 0 text (omega arith)

-- what a text is taken for is a number of 32 bits
pub short_fits : (text : List ℕ) → IsOf32Bits (short_in text)
short_fits text = omega arith

below_fits : (n : ℕ) → n ≤ 2 ^ 31 → IsCode (neg_ℤ (pos n))
below_fits zero small = omega arith
below_fits (suc n) small = omega (arith, small)

code_by : (b : Bool) (n m : ℕ) → IsCode (cond b (neg_ℤ (pos (min n (2 ^ 31)))) (pos (min m (2 ^ 31 - 1))))
code_by true n m = below_fits (min n (2 ^ 31)) (omega arith)
code_by false n m = omega arith

-- what a text is taken for is an exit code of 32 bits
pub code_fits : (text : List ℕ) → IsCode (code_written text)
code_fits [] = omega arith
code_fits (first ∷ rest) = code_by (first == 45) (number_written rest) (number_written (first ∷ rest))
