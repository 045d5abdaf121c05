-- Runs of bytes and single bytes at the front of a text.
use Rattle.std.proofs.Common.{append_assoc, [], ◌≡◌, ℕ, ◌+◌, ◌<◌, Bool, true, false, cond, not, ◌==◌, nat_lt, List, ◌∷◌, ◌++◌, length, drop, get_or, eq-eqb, refl, sym, ap, ◌∙◌, arith, add-zero}
use Rattle.std.proofs.lemmas.Bool.Decides.{nat_tests}
use Rattle.std.proofs.lemmas.Bool.{true≢false}
use Rattle.std.proofs.lemmas.List.Folds.{prefix_len-append}
use Rattle.std.proofs.lemmas.List.Sums.{sum_by-append}
use Rattle.std.specs.List.{prefix_len}
use Rattle.ct_lex.specs.Bytes.{stands, feeds}

-- of three texts in a row, the first two may be seen as one
pub behind-front : (front rest middle back : List ℕ) → rest ≡ middle ++ back → front ++ rest ≡ (front ++ middle) ++ back
behind-front front rest middle back e = ap (λ t. front ++ t) e ∙ sym (append_assoc front middle back)

pub behind-feed : (front rest middle back : List ℕ) → rest ≡ middle ++ back → front ++ 10 ∷ rest ≡ ((front ++ 10 ∷ []) ++ middle) ++ back
behind-feed front rest middle back e = sym (append_assoc front (10 ∷ []) rest) ∙ behind-front (front ++ 10 ∷ []) rest middle back e

pub stands-front : (byte first : ℕ) (rest : List ℕ) → stands byte 0 (first ∷ rest) ≡ (first == byte)
stands-front byte first rest = let e : nat_lt 0 (length (first ∷ rest)) ≡ true = grind (arith, nat_tests) in rw e

-- a run of bytes of one kind ends at a byte of another kind
pub run-read : (p : ℕ → Bool) (run : List ℕ) (byte : ℕ) (more : List ℕ) → prefix_len p run ≡ length run → p byte ≡ false → prefix_len p (run ++ byte ∷ more) ≡ length run
run-read p run byte more all other =
    let e : (prefix_len p run == length run) ≡ true = grind (arith, nat_tests) in
    let none : prefix_len p (byte ∷ more) ≡ 0 = rw other in
    prefix_len-append p run (byte ∷ more) ∙ rw (e, none) (add-zero (length run))

pub stands-at : (byte at : ℕ) (text : List ℕ) → at < length text → get_or text at 0 ≡ byte → stands byte at text ≡ true
stands-at byte at text inside e =
    let within : nat_lt at (length text) ≡ true = grind (arith, nat_tests) in
    let same : (get_or text at 0 == byte) ≡ true = eq-eqb (get_or text at 0) byte e in
    rw (within, same) refl

pub not_true : (x : Bool) → not x ≡ true → x ≡ false
not_true true e = absurd (true≢false (sym e))
not_true false e = refl

pub feeds-append : (a b : List ℕ) → feeds (a ++ b) ≡ feeds a + feeds b
feeds-append a b = sum_by-append (λ byte. cond (byte == 10) 1 0) a b

-- two bytes differ if a test holds for one of them alone
pub is-other : (p : ℕ → Bool) (byte code : ℕ) → p byte ≡ true → p code ≡ false → (byte == code) ≡ false
is-other p byte code holds never = by_test (byte == code) refl
  where
    by_test : (test : Bool) → (byte == code) ≡ test → (byte == code) ≡ false
    by_test false e = e
    by_test true e = let same : byte ≡ code = grind (arith, nat_tests) in absurd (true≢false (sym holds ∙ ap (λ b. p b) same ∙ never))
