-- A file is read up to one byte more than its limit. These bytes tell whether the file is too long, and are
-- the whole file where it is not.
use Rattle.std.proofs.Common.{◌≡◌, ap, Bool, true, false, ℕ, ◌+◌, ◌<◌, List, length, take, refl, arith}
use Rattle.std.specs.Prelude.{cond, nat_le}
use Rattle.std.proofs.lemmas.Bool.{leb-true, leb-false, lt-leb}
use Rattle.std.proofs.lemmas.List.{length-take, take_all}

-- the first bytes of a text and the whole text lead to the same value: `make` of the text,
-- or `long` where it is too long
pub made_of_front : {A : Type 0} (make : List ℕ → A) (long : A) (most : ℕ) (text : List ℕ) → cond (nat_le (length (take (most + 1) text)) most) (make (take (most + 1) text)) long ≡ cond (nat_le (length text) most) (make text) long
made_of_front make long most text = by_test (nat_le (length text) most) refl
  where
    by_test : (fits : Bool) → nat_le (length text) most ≡ fits → cond (nat_le (length (take (most + 1) text)) most) (make (take (most + 1) text)) long ≡ cond (nat_le (length text) most) (make text) long
    by_test true fits = let within = leb-true (length text) most fits in ap (λ t. cond (nat_le (length t) most) (make t) long) (take_all (most + 1) text (omega (arith, within)))
    by_test false fits =
        let above = leb-false (length text) most fits in
        let front = length-take (most + 1) text in
        let over : most < length (take (most + 1) text) = omega (arith, above, front) in
        rw (lt-leb (length (take (most + 1) text)) most over, fits) refl
