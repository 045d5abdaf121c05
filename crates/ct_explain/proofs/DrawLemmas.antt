-- A text is escaped byte by byte.
use Rattle.std.proofs.Common.{◌≡◌, ◌∙◌, ap, ℕ, zero, suc, ◌+◌, ◌<◌, List, [], ◌∷◌, ◌++◌, length, drop, refl, arith}
use Rattle.ct_explain.specs.Escaped.{escaped_from, left_behind, shown_text}

-- the text from a place on is what stands for the byte there, and the text behind it
pub escaped-next : (left at : ℕ) (bytes : List ℕ) → at < length bytes → escaped_from left (drop at bytes) ≡ shown_text left (drop at bytes) ++ escaped_from (left_behind left (drop at bytes)) (drop (at + 1) bytes)
escaped-next left at [] lt = absurd (omega (arith, lt))
escaped-next left zero (b ∷ bs) lt = refl
escaped-next left (suc k) (b ∷ bs) lt =
    let more : suc (k + 1) ≡ suc k + 1 = omega arith in
    escaped-next left k bs (omega (arith, lt))
    ∙ ap (λ (n : ℕ). shown_text left (drop k bs) ++ escaped_from (left_behind left (drop k bs)) (drop n (b ∷ bs))) more
