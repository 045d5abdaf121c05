-- How often a length goes into a million times a moment, by three steps of a hundred.
use Rattle.std.proofs.Common.{◌≡◌, ◌∙◌, sym, ap, ℕ, ◌+◌, ◌*◌, ◌<◌, arith}
use Rattle.std.specs.Prelude.{◌/◌, ◌==◌, Bool, false, cond, nat_le}
use Rattle.std.proofs.lemmas.Bool.{eqb-true, false_from_ne_true, leb-true}
use Rattle.std.proofs.lemmas.Nat.{div-mul-add}
use Rattle.ct_explain.specs.Scale.{scaled}

million : (moment length a ar b br c cr : ℕ) → a * length + ar ≡ 100 * moment → b * length + br ≡ 100 * ar → c * length + cr ≡ 100 * br → 1000000 * moment ≡ ((a * 100 + b) * 100 + c) * length + cr
million moment length a ar b br c cr first second third = omega (arith, first, second, third)

-- the shares of three steps are the digits of the quotient
pub by_shares : (moment length a ar b br c cr : ℕ) → a * length + ar ≡ 100 * moment → b * length + br ≡ 100 * ar → c * length + cr ≡ 100 * br → cr < length → (a * 100 + b) * 100 + c ≡ 1000000 * moment / length
by_shares moment length a ar b br c cr first second third less =
    sym (ap (λ (n : ℕ). n / length) (million moment length a ar b br c cr first second third) ∙ div-mul-add ((a * 100 + b) * 100 + c) length cr less)

-- a moment within the length stands at the quotient
pub scaled-by : (length moment q : ℕ) → 0 < length → moment < length → q ≡ 1000000 * moment / length → q ≡ scaled length moment
scaled-by length moment q some less is =
    let has : (length == 0) ≡ false = false_from_ne_true (length == 0) (λ none. absurd (omega (arith, eqb-true length 0 none))) in
    let within : nat_le length moment ≡ false = false_from_ne_true (nat_le length moment) (λ most. absurd (omega (arith, leb-true length moment most))) in
    is
    ∙ sym (ap (λ (b : Bool). cond b 0 (cond (nat_le length moment) 1000000 (1000000 * moment / length))) has
    ∙ ap (λ (b : Bool). cond b 1000000 (1000000 * moment / length)) within)
