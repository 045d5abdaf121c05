use Rattle.std.proofs.Common.{◌≡◌, ◌++◌, drop}
use Rattle.ct_base.proofs.PieceLemmas.{with_piece}
use Rattle.ct_groups.specs.Description.{pieces_of}
use Rattle.ct_groups.proofs.pieces.pieces_of.Given as goal

abbrev pub invariant-loop-byte : goal.invariant-loop-byte
invariant-loop-byte l = l.pieces ++ with_piece l.piece.items (pieces_of (drop l.byte-index l.text)) ≡ pieces_of l.text
