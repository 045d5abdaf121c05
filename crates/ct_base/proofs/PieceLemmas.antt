-- The pieces of a text with the bytes of the piece so far in front.
use Rattle.std.proofs.Common.{ℕ, ◌≡◌, List, [], ◌∷◌, ◌++◌, Bool, true, false, cond, refl, sym, ap}
use Rattle.std.specs.List.{onto_first}
use Rattle.std.proofs.lemmas.List.{append_assoc}

-- the pieces, with the bytes of the piece so far in front of the first one
abbrev pub with_piece : List ℕ → List (List ℕ) → List (List ℕ)
with_piece piece [] = piece ∷ []
with_piece piece (first ∷ pieces) = (piece ++ first) ∷ pieces

pub no_piece-by : (cut : Bool) (byte : ℕ) (pieces : List (List ℕ)) → with_piece [] (cond cut ([] ∷ pieces) (onto_first byte pieces)) ≡ cond cut ([] ∷ pieces) (onto_first byte pieces)
no_piece-by true byte pieces = refl
no_piece-by false byte [] = refl
no_piece-by false byte (first ∷ pieces) = refl

pub piece-more : (piece : List ℕ) (byte : ℕ) (pieces : List (List ℕ)) → with_piece piece (onto_first byte pieces) ≡ with_piece (piece ++ byte ∷ []) pieces
piece-more piece byte [] = refl
piece-more piece byte (first ∷ pieces) = ap (λ p. p ∷ pieces) (sym (append_assoc piece (byte ∷ []) first))
