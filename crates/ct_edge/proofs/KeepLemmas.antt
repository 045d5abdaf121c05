-- What was kept of an output when one more piece came, and what an ear heard when it was handed on.
use Rattle.std.specs.Prelude.{◌≡◌, ℕ, List, [], ◌++◌, Option, Some, None, IfSome}
use Rattle.std.specs.Io.KnownBytes.{Consumes}
use Rattle.std.proofs.Common.{refl, sym, ap, ◌∙◌, append_assoc, append-nil}
use Rattle.ct_base.specs.Outside.{Adds, Becomes}
use Rattle.ct_edge.specs.Heard.{Hears, HearsBoth, emptied, known_beside}
use Rattle.ct_edge.specs.Transfer.{MovesTo}

-- nothing has moved so far
pub moves_none : (left kept : Option (List ℕ)) → MovesTo left kept left kept
moves_none None None = tt
moves_none None (Some kept) = tt
moves_none (Some left) None = tt
moves_none (Some left) (Some kept) = refl

-- more has moved
pub moves_more : (left mid now kept between after : Option (List ℕ)) → MovesTo left kept mid between → MovesTo mid between now after → MovesTo left kept now after
moves_more None mid now None between after was is = tt
moves_more None mid now (Some kept) between after was is = tt
moves_more (Some left) mid now None between after was is = tt
moves_more (Some left) None now (Some kept) None after was is = absurd was
moves_more (Some left) None now (Some kept) (Some between) after was is = absurd was
moves_more (Some left) (Some mid) now (Some kept) None after was is = absurd was
moves_more (Some left) (Some mid) None (Some kept) (Some between) None was is = absurd is
moves_more (Some left) (Some mid) None (Some kept) (Some between) (Some after) was is = absurd is
moves_more (Some left) (Some mid) (Some now) (Some kept) (Some between) None was is = absurd is
moves_more (Some left) (Some mid) (Some now) (Some kept) (Some between) (Some after) was is = was ∙ is

-- a piece that was read was kept
pub moves_piece : (left now kept after : Option (List ℕ)) (piece : List ℕ) → Consumes left now piece → Becomes kept after (Adds piece) → MovesTo left kept now after
moves_piece None now None after piece read kept = tt
moves_piece None now (Some before) after piece read kept = tt
moves_piece (Some left) now None after piece read kept = tt
moves_piece (Some left) None (Some before) None piece read kept = absurd read
moves_piece (Some left) None (Some before) (Some after) piece read kept = absurd read
moves_piece (Some left) (Some now) (Some before) None piece read kept = absurd kept
moves_piece (Some left) (Some now) (Some before) (Some after) piece read kept =
    ap (λ (xs : List ℕ). before ++ xs) read ∙ sym (append_assoc before piece now) ∙ ap (λ (xs : List ℕ). xs ++ now) (sym kept)

-- what was kept of the second output was heard behind the first
pub hears_both : (output output_now errors errors_now kept kept_now : Option (List ℕ)) (before between now : List ℕ → Type 0) → IfSome kept (λ bytes. bytes ≡ []) → Hears output output_now before between → MovesTo errors kept errors_now kept_now → Hears kept_now (emptied kept_now) between now → HearsBoth output output_now (known_beside kept errors) (known_beside kept errors_now) before now
hears_both output output_now errors errors_now kept kept_now before between now empty first moved second = record {
  first = first.heard;
  second = second.heard;
  first_moved = first.moved;
  second_moved = by_kept errors errors_now kept kept_now empty moved second.moved;
  said = λ text so. second.said (text ++ first.heard) (first.said text so);
}
  where
    by_kept : (left left_now held held_now : Option (List ℕ)) → IfSome held (λ bytes. bytes ≡ []) → MovesTo left held left_now held_now → Becomes held_now (emptied held_now) (λ all rest. all ≡ second.heard ++ rest) → Becomes (known_beside held left) (known_beside held left_now) (λ all rest. all ≡ second.heard ++ rest)
    by_kept left left_now None held_now none moves hears = tt
    by_kept None left_now (Some held) held_now none moves hears = tt
    by_kept (Some left) None (Some held) None none moves hears = absurd moves
    by_kept (Some left) None (Some held) (Some held_now) none moves hears = absurd moves
    by_kept (Some left) (Some left_now) (Some held) None none moves hears = absurd moves
    by_kept (Some left) (Some left_now) (Some held) (Some held_now) none moves hears =
        ap (λ (xs : List ℕ). xs ++ left) (sym none) ∙ moves ∙ ap (λ (xs : List ℕ). xs ++ left_now) (hears ∙ append-nil second.heard)
