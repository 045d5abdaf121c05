-- A number is on a stride where the way to it from the start is a multiple of the stride.
use Rattle.std.proofs.Common.{◌≡◌, ℕ, ◌+◌, ◌-◌, ◌*◌, ◌/◌, ◌%◌, ◌<◌, ◌≤◌, Bool, true, false, eqb, List, [], ◌∷◌, get_or, refl, ap, ◌∙◌, arith}
use Rattle.std.proofs.Math.Nat.{div-le_self, mul-mod_left, mod-zero}
use Rattle.std.proofs.lemmas.Nat.{div-add-mod'}
use Rattle.std.proofs.lemmas.Bool.{eqb-true, eqb-false, eq-eqb, ne_eqb}
use Rattle.std.proofs.lemmas.List.Folds.{list_any_at}
use Rattle.std.proofs.lemmas.List.FromFn.{length-range_with_len, get_or-range_with_len}
use Rattle.std.specs.List.{list_any, range_with_len}
use Rattle.ct_select.specs.Chosen.{is_on_stride}

no_hit : (p : ℕ → Bool) → ((k : ℕ) → p k ≡ false) → (xs : List ℕ) → list_any p xs ≡ false
no_hit p none [] = refl
no_hit p none (x ∷ xs) = rw (none x) (no_hit p none xs)

-- nothing in front of the start is on the stride
pub off_stride : (start stride number : ℕ) → number < start → is_on_stride start stride number ≡ false
off_stride start stride number low =
    no_hit (λ k. eqb (start + k * stride) number) (λ k. ne_eqb (start + k * stride) number (λ same. omega (arith, same, low))) (range_with_len 0 (number + 1))

whole_way : (start stride number : ℕ) → start ≤ number → (number - start) % stride ≡ 0 → is_on_stride start stride number ≡ true
whole_way start stride number from whole =
    let k : ℕ = (number - start) / stride in
    let back : (number - start) / stride * stride + (number - start) % stride ≡ number - start = div-add-mod' (number - start) stride in
    let short : (number - start) / stride ≤ number - start = div-le_self (number - start) stride in
    let there : start + (number - start) / stride * stride ≡ number = omega (arith, back, whole, from) in
    let low : (number - start) / stride < number + 1 = omega (arith, short) in
    let read : get_or (range_with_len 0 (number + 1)) ((number - start) / stride) 0 ≡ (number - start) / stride =
    get_or-range_with_len 0 (number + 1) ((number - start) / stride) 0 low ∙ omega arith in
    list_any_at (λ k. eqb (start + k * stride) number) (range_with_len 0 (number + 1)) ((number - start) / stride) 0 (rw (length-range_with_len 0 (number + 1)) low) (ap (λ k. eqb (start + k * stride) number) read ∙ eq-eqb (start + (number - start) / stride * stride) number there)

part_way : (start stride number : ℕ) → ((number - start) % stride ≡ 0 → ⊥) → is_on_stride start stride number ≡ false
part_way start stride number part =
    no_hit (λ k. eqb (start + k * stride) number) (λ k. ne_eqb (start + k * stride) number (λ same. let way : number - start ≡ k * stride = omega (arith, same) in part (ap (λ n. n % stride) way ∙ mul-mod_left k stride))) (range_with_len 0 (number + 1))

by_rest : (start stride number : ℕ) → start ≤ number → (rest : Bool) → eqb ((number - start) % stride) 0 ≡ rest → is_on_stride start stride number ≡ rest
by_rest start stride number from true is = whole_way start stride number from (eqb-true ((number - start) % stride) 0 is)
by_rest start stride number from false is = part_way start stride number (eqb-false ((number - start) % stride) 0 is)

-- from the start on, a number is on the stride where the stride divides the way; a stride of 0 divides no way but 0
pub on_stride : (start stride number : ℕ) → start ≤ number → is_on_stride start stride number ≡ eqb ((number - start) % stride) 0
on_stride start stride number from = by_rest start stride number from (eqb ((number - start) % stride) 0) refl

-- without a stride the start alone is on it
pub without_stride : (start stride number : ℕ) → start ≤ number → stride ≡ 0 → is_on_stride start stride number ≡ eqb (number - start) 0
without_stride start stride number from none =
    on_stride start stride number from ∙ ap (λ n. eqb ((number - start) % n) 0) none ∙ ap (λ n. eqb n 0) (mod-zero (number - start))
