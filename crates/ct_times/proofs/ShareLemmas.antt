-- A sum over a size, with one product more.
use Rattle.std.proofs.Common.{◌≡◌, ◌∙◌, sym, ap, ℕ, ◌+◌, ◌*◌, ◌/◌, ◌%◌, ◌^◌, ◌<◌, ◌≤◌, arith}
use Rattle.std.specs.Prelude.{min, ◌-◌}
use Rattle.std.proofs.Math.Nat.{div-eq_of_lt, mul-add-div_right, mul-add-mod_self_right, zero-div}
use Rattle.std.proofs.lemmas.Nat.{div-add-mod', mul-le}
use Rattle.ct_times.specs.declared.share.Share.{Share}
use Rattle.ct_times.specs.Bounds.{IsShare}
use Rattle.ct_times.specs.Capacity.{over_up}

-- a rest of less than 64 bits times a number of 64 bits leaves room for another one
pub product_fits : (f d a : ℕ) → 1 ≤ d → d < 2 ^ 64 → a < 2 ^ 64 → f % d * a + 2 ^ 64 ≤ 2 ^ 128
product_fits f d a some small few =
    let left : f % d ≤ 2 ^ 64 - 2 = omega arith in
    let right : a ≤ 2 ^ 64 - 1 = omega arith in
    omega (arith, mul-le (f % d) a (2 ^ 64 - 2) (2 ^ 64 - 1) left right)

-- the sum with a product more, by what fits and what is left
pub split_more : (n f a d : ℕ) → n + f * a ≡ (n / d + f / d * a) * d + (f % d * a + n % d)
split_more n f a d =
    let whole : f * a ≡ (f / d * d + f % d) * a = ap (λ (x : ℕ). x * a) (sym (div-add-mod' f d)) in
    omega (arith, whole, div-add-mod' n d)

pub div_more : (n f a d : ℕ) → 1 ≤ d → (n + f * a) / d ≡ n / d + f / d * a + (f % d * a + n % d) / d
div_more n f a d some =
    ap (λ (x : ℕ). x / d) (split_more n f a d) ∙ mul-add-div_right {m = d} some (n / d + f / d * a) (f % d * a + n % d)

pub mod_more : (n f a d : ℕ) → (n + f * a) % d ≡ (f % d * a + n % d) % d
mod_more n f a d =
    ap (λ (x : ℕ). x % d) (split_more n f a d) ∙ mul-add-mod_self_right (n / d + f / d * a) d (f % d * a + n % d)

-- a product more
pub share_step : (share new : Share) (f a d n part : ℕ) → 1 ≤ d → part ≡ f % d * a + share.rest
    → new.whole ≡ min (min (share.whole + min (f / d * a) (2 ^ 128 - 1)) (2 ^ 128 - 1) + part / d) (2 ^ 128 - 1)
    → new.rest ≡ part % d → IsShare share d n → IsShare new d (n + f * a)
share_step share new f a d n part some part_is whole_is rest_is is =
    let same : part ≡ f % d * a + n % d = omega (arith, part_is, is.rest) in
    let fits : part / d ≡ (f % d * a + n % d) / d = ap (λ (x : ℕ). x / d) same in
    let left : part % d ≡ (f % d * a + n % d) % d = ap (λ (x : ℕ). x % d) same in
    record {
      whole = omega (arith, whole_is, is.whole, fits, div_more n f a d some);
      rest = rest_is ∙ left ∙ sym (mod_more n f a d);
    }

-- a number over a size, rounded up, by what fits and what is left
pub up_exact : (n d : ℕ) → 1 ≤ d → n % d ≡ 0 → over_up n d ≡ n / d
up_exact n d some none =
    let whole : n + (d - 1) ≡ n / d * d + (d - 1) = omega (arith, div-add-mod' n d, none) in
    let less : d - 1 < d = omega arith in
    let small : (d - 1) / d ≡ 0 = div-eq_of_lt {n = d - 1} {m = d} less in
    ap (λ (x : ℕ). x / d) whole ∙ mul-add-div_right {m = d} some (n / d) (d - 1) ∙ omega (arith, small)

pub up_more : (n d : ℕ) → 1 ≤ d → 0 < n % d → over_up n d ≡ n / d + 1
up_more n d some left =
    let whole : n + (d - 1) ≡ (n / d + 1) * d + (n % d - 1) = omega (arith, div-add-mod' n d) in
    let less : n % d - 1 < d = omega arith in
    let small : (n % d - 1) / d ≡ 0 = div-eq_of_lt {n = n % d - 1} {m = d} less in
    ap (λ (x : ℕ). x / d) whole ∙ mul-add-div_right {m = d} some (n / d + 1) (n % d - 1) ∙ omega (arith, small)

pub share_none : (share : Share) (d : ℕ) → share.whole ≡ 0 → share.rest ≡ 0 → 1 ≤ d → IsShare share d 0
share_none share d whole rest some = record {
  whole = omega (arith, whole, zero-div d);
  rest = omega (arith, rest);
}

pub share_up : (share : Share) (d n : ℕ) → 1 ≤ d → IsShare share d n → 0 < share.rest → min (share.whole + 1) (2 ^ 128 - 1) ≡ min (over_up n d) (2 ^ 128 - 1)
share_up share d n some is left = omega (arith, is.whole, up_more n d some (omega (arith, is.rest, left)))

pub share_exact : (share : Share) (d n : ℕ) → 1 ≤ d → IsShare share d n → share.rest ≤ 0 → share.whole ≡ min (over_up n d) (2 ^ 128 - 1)
share_exact share d n some is none = omega (arith, is.whole, up_exact n d some (omega (arith, is.rest, none)))
