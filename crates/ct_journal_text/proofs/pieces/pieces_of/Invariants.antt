use Rattle.std.proofs.Common.{◌≡◌, ◌++◌, drop}
use Rattle.ct_base.proofs.PieceLemmas.{with_piece}
use Rattle.ct_journal_text.specs.Guess.{pieces}
use Rattle.ct_journal_text.proofs.pieces.pieces_of.Given as goal

abbrev pub invariant-loop-byte : goal.invariant-loop-byte
invariant-loop-byte l = l.pieces ++ with_piece l.piece.items (pieces l.separator (drop l.byte-index l.text)) ≡ pieces l.separator l.text
