-- A duration that was written is read back.
use Rattle.std.proofs.Common.{◌≡◌, ◌∙◌, ap, refl, ℕ, ◌+◌, ◌*◌, ◌/◌, ◌%◌, ◌^◌, ◌<◌, ◌≤◌, min, true, false, cond, List, [], ◌∷◌, ◌++◌, length, take, drop, map, All, Some, None, arith, append_assoc, codes}
use Rattle.std.specs.Prelude.{◌&&◌, ◌==◌, not, decimal, option_map}
use Rattle.std.specs.Char.{digit_value, is_ascii_digit}
use Rattle.std.specs.List.{list_all}
use Rattle.std.specs.Str.Parse.{digits_value, digits_value_after}
use Rattle.std.proofs.Math.Nat.{min-eq_left}
use Rattle.std.proofs.Math.Seq.{drop-append-add, take-append_seam}
use Rattle.std.proofs.lemmas.Bool.{and_from, and_parts}
use Rattle.std.proofs.lemmas.Fmt.{decimal_is_IsNumeral}
use Rattle.std.proofs.lemmas.List.{take_all}
use Rattle.std.proofs.lemmas.List.Elements.{All-append, All-cons, All-nil}
use Rattle.std.proofs.lemmas.Nat.{mod_below}
use Rattle.std.proofs.lemmas.Str.{digit_value_digit}
use Rattle.ct_base.specs.Bytes.{minus, point, zero_digit}
use Rattle.ct_base.specs.Seconds.{is_numeral, micros_in, micros_of_digits, micros_with_point, most_micros, plain_micros, six_decimals}
use Rattle.ct_base.proofs.DecimalLemmas.{in_pieces, many_decimals}
use Rattle.ct_cost.specs.Text.{exact_seconds, six_digits}
use Rattle.ct_laws.proofs.LineLemmas.{all_digits, decimal_digits, decimal_numeral, digit_of, no_digit, position_at}

digits_at : (n : ℕ) (places : List ℕ) → list_all is_ascii_digit (map (λ place. zero_digit + n / place % 10) places) ≡ true
digits_at n [] = refl
digits_at n (place ∷ places) =
    and_from (is_ascii_digit (zero_digit + n / place % 10)) (list_all is_ascii_digit (map (λ (p : ℕ). zero_digit + n / p % 10) places)) (digit_of (n / place % 10) (mod_below (n / place) 10 (omega arith)))
    (digits_at n places)

six_are : (n : ℕ) → list_all is_ascii_digit (six_digits n) ≡ true
six_are n = digits_at n (100000 ∷ 10000 ∷ 1000 ∷ 100 ∷ 10 ∷ 1 ∷ [])

six_numeral : (n : ℕ) → is_numeral (six_digits n) ≡ true
six_numeral n = six_are n

-- what holds of digits and of a point holds of each byte of a duration
pub seconds_bytes : (P : ℕ → Type 0) → ((byte : ℕ) → 46 ≤ byte → byte ≤ 57 → P byte) → (micros : ℕ) → All P (exact_seconds micros)
seconds_bytes P holds micros =
    let digit = λ (byte : ℕ) (least : 48 ≤ byte) (most : byte ≤ 57). holds byte (omega (arith, least)) most in
    let whole = decimal (micros / 1000000) in
    let front = All-append P whole (codes ".") (all_digits P digit whole (decimal_digits (micros / 1000000))) (All-cons P 46 [] (holds 46 (omega arith) (omega arith)) (All-nil P)) in
    All-append P (whole ++ codes ".") (six_digits (micros % 1000000)) front (all_digits P digit (six_digits (micros % 1000000)) (six_are (micros % 1000000)))

with_parts : (text whole decimals : List ℕ) (at : ℕ) → take at text ≡ whole → drop (at + 1) text ≡ decimals → is_numeral whole ≡ true → is_numeral decimals ≡ true → micros_with_point text (Some at) ≡ Some (micros_of_digits whole decimals)
with_parts text whole decimals at front back one other =
    (λ i. cond (is_numeral (front i) && is_numeral (back i)) (Some (micros_of_digits (front i) (back i))) None)
    ∙ ap (λ b. cond b (Some (micros_of_digits whole decimals)) None) (and_from (is_numeral whole) (is_numeral decimals) one other)

plain_back : (whole decimals : List ℕ) → is_numeral whole ≡ true → is_numeral decimals ≡ true → plain_micros (whole ++ point ∷ decimals) ≡ Some (micros_of_digits whole decimals)
plain_back whole decimals one other =
    let text = whole ++ point ∷ decimals in
    let all = (and_parts (not (length whole == 0)) (list_all is_ascii_digit whole) one).1 in
    ap (micros_with_point text) (position_at (λ byte. byte == point) whole point decimals (no_digit 46 (omega arith) whole all) refl)
    ∙ with_parts text whole decimals (length whole) (take-append_seam whole (point ∷ decimals)) (drop-append-add whole (point ∷ decimals) 1) one other

unsigned : (first : ℕ) (rest : List ℕ) → (first == minus) ≡ false → micros_in (first ∷ rest) ≡ plain_micros (first ∷ rest)
unsigned first rest other = ap (λ b. cond b (option_map (λ (micros : ℕ). 0) (plain_micros rest)) (plain_micros (first ∷ rest))) other

signless : (whole decimals : List ℕ) → is_numeral whole ≡ true → micros_in (whole ++ point ∷ decimals) ≡ plain_micros (whole ++ point ∷ decimals)
signless [] decimals one = cc
signless (first ∷ whole) decimals one =
    let all = (and_parts (not (length (first ∷ whole) == 0)) (list_all is_ascii_digit (first ∷ whole)) one).1 in
    unsigned first (whole ++ point ∷ decimals) (no_digit 45 (omega arith) (first ∷ whole) all 0 first (omega arith))

value_of_digit : (d : ℕ) → d < 10 → digit_value (48 + d) ≡ d
value_of_digit d less = let is = digit_value_digit (48 + d) (omega arith, omega arith) in omega (arith, is)

sum_of : (q a1 a2 a3 a4 a5 d0 d1 d2 d3 d4 d5 r : ℕ) → d0 + a1 * 10 ≡ r → d1 + a2 * 10 ≡ a1 → d2 + a3 * 10 ≡ a2 → d3 + a4 * 10 ≡ a3 → d4 + a5 * 10 ≡ a4 → d5 ≡ a5
    → (((((q * 10 + d5) * 10 + d4) * 10 + d3) * 10 + d2) * 10 + d1) * 10 + d0 ≡ q * 1000000 + r
sum_of q a1 a2 a3 a4 a5 d0 d1 d2 d3 d4 d5 r e0 e1 e2 e3 e4 e5 = omega arith

-- the last six digits behind the others
value_of_six : (q r : ℕ) → r < 1000000 → digits_value_after 10 q (six_digits r) ≡ q * 1000000 + r
value_of_six q r less =
    let v0 = value_of_digit (r / 1 % 10) (mod_below (r / 1) 10 (omega arith)) in
    let v1 = value_of_digit (r / 10 % 10) (mod_below (r / 10) 10 (omega arith)) in
    let v2 = value_of_digit (r / 100 % 10) (mod_below (r / 100) 10 (omega arith)) in
    let v3 = value_of_digit (r / 1000 % 10) (mod_below (r / 1000) 10 (omega arith)) in
    let v4 = value_of_digit (r / 10000 % 10) (mod_below (r / 10000) 10 (omega arith)) in
    let v5 = value_of_digit (r / 100000 % 10) (mod_below (r / 100000) 10 (omega arith)) in
    let e0 : r / 1 % 10 + r / 10 * 10 ≡ r = omega arith in
    let e1 : r / 10 % 10 + r / 100 * 10 ≡ r / 10 = omega arith in
    let e2 : r / 100 % 10 + r / 1000 * 10 ≡ r / 100 = omega arith in
    let e3 : r / 1000 % 10 + r / 10000 * 10 ≡ r / 1000 = omega arith in
    let e4 : r / 10000 % 10 + r / 100000 * 10 ≡ r / 10000 = omega arith in
    let e5 : r / 100000 % 10 ≡ r / 100000 = omega arith in
    (λ i. (((((q * 10 + v5 i) * 10 + v4 i) * 10 + v3 i) * 10 + v2 i) * 10 + v1 i) * 10 + v0 i)
    ∙ sum_of q (r / 10) (r / 100) (r / 1000) (r / 10000) (r / 100000) (r / 1 % 10) (r / 10 % 10) (r / 100 % 10) (r / 1000 % 10) (r / 10000 % 10) (r / 100000 % 10) r e0 e1 e2 e3 e4 e5

six_stay : (r : ℕ) → six_decimals (six_digits r) ≡ six_digits r
six_stay r = many_decimals (six_digits r) (omega arith) ∙ take_all 6 (six_digits r) (omega arith)

value_back : (micros : ℕ) → micros ≤ most_micros → micros_of_digits (decimal (micros / 1000000)) (six_digits (micros % 1000000)) ≡ micros
value_back micros most =
    let q = micros / 1000000 in
    let r = micros % 1000000 in
    let small : q < 2 ^ 64 = omega arith in
    let less : r < 1000000 = mod_below micros 1000000 (omega arith) in
    let whole : q * 1000000 + r ≡ micros = omega arith in
    ap (λ ds. min (digits_value 10 (decimal q ++ ds)) most_micros) (six_stay r)
    ∙ ap (λ n. min n most_micros) (in_pieces 0 (decimal q) (six_digits r) ∙ ap (λ n. digits_value_after 10 n (six_digits r)) (decimal_is_IsNumeral q small).1 ∙ value_of_six q r less ∙ whole)
    ∙ min-eq_left most

-- a duration is read back
pub seconds_back : (micros : ℕ) → micros ≤ most_micros → micros_in (exact_seconds micros) ≡ Some micros
seconds_back micros most =
    let whole = decimal (micros / 1000000) in
    let decimals = six_digits (micros % 1000000) in
    ap micros_in (append_assoc whole (codes ".") decimals)
    ∙ signless whole decimals (decimal_numeral (micros / 1000000))
    ∙ plain_back whole decimals (decimal_numeral (micros / 1000000)) (six_numeral (micros % 1000000))
    ∙ ap Some (value_back micros most)
