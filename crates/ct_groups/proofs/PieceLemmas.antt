-- The pieces of a text while it is read byte by byte; each step keeps what the whole text stands for.
use Rattle.std.proofs.Common.{ℕ, ◌+◌, ◌<◌, ◌≤◌, ◌≡◌, List, [], ◌∷◌, ◌++◌, drop, length, slice_index, refl, sym, ap, ◌∙◌, ◌==◌}
use Rattle.std.specs.List.{onto_first}
use Rattle.std.proofs.lemmas.Bool.{ne_eqb, eq-eqb}
use Rattle.std.proofs.lemmas.List.{append_assoc, append-nil, drop_more, drop_all}
use Rattle.std.proofs.lemmas.List.Splits.{slice_split-cons_yes, slice_split-cons_no}
use Rattle.ct_base.specs.Bytes.{comma}
use Rattle.ct_base.proofs.PieceLemmas.{with_piece, no_piece-by, piece-more}
use Rattle.ct_groups.specs.Description.{pieces_of}

no_piece : (text : List ℕ) → with_piece [] (pieces_of text) ≡ pieces_of text
no_piece [] = refl
no_piece (byte ∷ text) = no_piece-by (byte == comma) byte (pieces_of text)

-- a comma is read: it ends the piece
pub cuts_at_comma : (pieces all : List (List ℕ)) (piece text : List ℕ) (at : ℕ) → at < length text → slice_index text at ≡ comma → pieces ++ with_piece piece (pieces_of (drop at text)) ≡ all → pieces ++ piece ∷ [] ++ with_piece [] (pieces_of (drop (at + 1) text)) ≡ all
cuts_at_comma pieces all piece text at within is so_far =
    let rest = pieces_of (drop (at + 1) text) in
    let split : pieces_of (drop at text) ≡ [] ∷ rest = ap pieces_of (drop_more text at 0 within) ∙ slice_split-cons_yes (λ byte. byte == comma) (slice_index text at) (drop (at + 1) text) (eq-eqb (slice_index text at) comma is) in
    append_assoc pieces (piece ∷ []) (with_piece [] rest) ∙ ap (λ ps. pieces ++ (piece ∷ ps)) (no_piece (drop (at + 1) text)) ∙ ap (λ q. pieces ++ (q ∷ rest)) (sym (append-nil piece)) ∙ ap (λ ps. pieces ++ with_piece piece ps) (sym split) ∙ so_far

-- another byte is read: it is appended to the piece
pub keeps_byte : (pieces all : List (List ℕ)) (piece text : List ℕ) (at : ℕ) → at < length text → (slice_index text at ≡ comma → ⊥) → pieces ++ with_piece piece (pieces_of (drop at text)) ≡ all → pieces ++ with_piece (piece ++ slice_index text at ∷ []) (pieces_of (drop (at + 1) text)) ≡ all
keeps_byte pieces all piece text at within other so_far =
    let rest = pieces_of (drop (at + 1) text) in
    let split : pieces_of (drop at text) ≡ onto_first (slice_index text at) rest = ap pieces_of (drop_more text at 0 within) ∙ slice_split-cons_no (λ byte. byte == comma) (slice_index text at) (drop (at + 1) text) (ne_eqb (slice_index text at) comma other) in
    ap (λ ps. pieces ++ ps) (sym (piece-more piece (slice_index text at) rest)) ∙ ap (λ ps. pieces ++ with_piece piece ps) (sym split) ∙ so_far

-- before the first byte: nothing is read yet
pub cuts_none : (text : List ℕ) → with_piece [] (pieces_of (drop 0 text)) ≡ pieces_of text
cuts_none text = no_piece text

-- at the end of the text: the piece is the last one
pub cuts_all : (pieces all : List (List ℕ)) (piece text : List ℕ) (at : ℕ) → length text ≤ at → pieces ++ with_piece piece (pieces_of (drop at text)) ≡ all → pieces ++ piece ∷ [] ≡ all
cuts_all pieces all piece text at done so_far = ap (λ q. pieces ++ q ∷ []) (sym (append-nil piece)) ∙ ap (λ t. pieces ++ with_piece piece (pieces_of t)) (sym (drop_all at text done)) ∙ so_far
