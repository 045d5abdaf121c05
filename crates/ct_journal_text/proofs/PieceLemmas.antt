-- What the pieces of a text are when its first byte is read.
use Rattle.std.proofs.Common.{ℕ, ◌+◌, ◌<◌, ◌≤◌, ◌≡◌, List, [], ◌∷◌, ◌++◌, drop, length, slice_index, refl, sym, ap, ◌∙◌, ◌==◌}
use Rattle.std.specs.List.{onto_first}
use Rattle.std.proofs.lemmas.Bool.{ne_eqb, eq-eqb}
use Rattle.std.proofs.lemmas.List.{append_assoc, append-nil, drop_more, drop_all}
use Rattle.std.proofs.lemmas.List.Splits.{slice_split-cons_yes, slice_split-cons_no}
use Rattle.ct_base.proofs.PieceLemmas.{with_piece, no_piece-by, piece-more}
use Rattle.ct_journal_text.specs.Guess.{pieces}

no_piece : (separator : ℕ) (text : List ℕ) → with_piece [] (pieces separator text) ≡ pieces separator text
no_piece separator [] = refl
no_piece separator (byte ∷ text) = no_piece-by (byte == separator) byte (pieces separator text)

-- the byte that separates ends the piece
pub cuts_at_separator : (separator : ℕ) (front all : List (List ℕ)) (piece text : List ℕ) (at : ℕ) → at < length text → slice_index text at ≡ separator → front ++ with_piece piece (pieces separator (drop at text)) ≡ all
    → front ++ piece ∷ [] ++ with_piece [] (pieces separator (drop (at + 1) text)) ≡ all
cuts_at_separator separator front all piece text at within is so_far =
    let rest = pieces separator (drop (at + 1) text) in
    let split : pieces separator (drop at text) ≡ [] ∷ rest =
    ap (pieces separator) (drop_more text at 0 within) ∙ slice_split-cons_yes (λ byte. byte == separator) (slice_index text at) (drop (at + 1) text) (eq-eqb (slice_index text at) separator is) in
    append_assoc front (piece ∷ []) (with_piece [] rest)
    ∙ ap (λ ps. front ++ (piece ∷ ps)) (no_piece separator (drop (at + 1) text))
    ∙ ap (λ q. front ++ (q ∷ rest)) (sym (append-nil piece))
    ∙ ap (λ ps. front ++ with_piece piece ps) (sym split)
    ∙ so_far

-- another byte is put behind the piece
pub keeps_byte : (separator : ℕ) (front all : List (List ℕ)) (piece text : List ℕ) (at : ℕ) → at < length text → (slice_index text at ≡ separator → ⊥) → front ++ with_piece piece (pieces separator (drop at text)) ≡ all
    → front ++ with_piece (piece ++ slice_index text at ∷ []) (pieces separator (drop (at + 1) text)) ≡ all
keeps_byte separator front all piece text at within other so_far =
    let rest = pieces separator (drop (at + 1) text) in
    let split : pieces separator (drop at text) ≡ onto_first (slice_index text at) rest =
    ap (pieces separator) (drop_more text at 0 within) ∙ slice_split-cons_no (λ byte. byte == separator) (slice_index text at) (drop (at + 1) text) (ne_eqb (slice_index text at) separator other) in
    ap (λ ps. front ++ ps) (sym (piece-more piece (slice_index text at) rest)) ∙ ap (λ ps. front ++ with_piece piece ps) (sym split) ∙ so_far

-- before the first byte
pub cuts_none : (separator : ℕ) (text : List ℕ) → with_piece [] (pieces separator (drop 0 text)) ≡ pieces separator text
cuts_none separator text = no_piece separator text

-- at the end of the text
pub cuts_all : (separator : ℕ) (front all : List (List ℕ)) (piece text : List ℕ) (at : ℕ) → length text ≤ at → front ++ with_piece piece (pieces separator (drop at text)) ≡ all → front ++ piece ∷ [] ≡ all
cuts_all separator front all piece text at done so_far =
    ap (λ q. front ++ q ∷ []) (sym (append-nil piece)) ∙ ap (λ t. front ++ with_piece piece (pieces separator t)) (sym (drop_all at text done)) ∙ so_far
