-- Marks that are all false, and a text that is taken piece by piece.
use Rattle.std.proofs.Common.{ℕ, ◌≡◌, ◌-◌, false, List, ◌++◌, length, get_or, drop, replicate, sym, ap, ◌∙◌, ⊎_elim, arith, append_assoc}
use Rattle.std.proofs.lemmas.Bool.{cases_lt}
use Rattle.std.proofs.lemmas.List.{get_or-replicate, get_or_past, length-replicate, take-append-drop, take_rest}
use Rattle.std.specs.Prelude.{take}

-- new marks are false
pub none_new : (count at : ℕ) → get_or (replicate count false) at false ≡ false
none_new count at =
    ⊎_elim (λ within. get_or-replicate count at false false within)
    (λ past. get_or_past (replicate count false) at false (let long : length (replicate count false) ≡ count = length-replicate count false in omega arith))
    (cases_lt at count)

-- the piece is the bytes sent before, the bytes taken now, and the bytes left
pub parts-more : (piece sent left : List ℕ) (taken : ℕ) → piece ≡ sent ++ left → piece ≡ (sent ++ take taken left) ++ take (length left - taken) (drop taken left)
parts-more piece sent left taken is =
    is ∙ ap (λ (rest : List ℕ). sent ++ rest) (sym (take-append-drop taken left)) ∙ sym (append_assoc sent (take taken left) (drop taken left))
    ∙ ap (λ (rest : List ℕ). (sent ++ take taken left) ++ rest) (sym (take_rest left taken))
