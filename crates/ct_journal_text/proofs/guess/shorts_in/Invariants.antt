use Rattle.std.proofs.Common.{◌≡◌, take, map}
use Rattle.ct_journal_text.specs.Guess.{short_in}
use Rattle.ct_journal_text.proofs.guess.shorts_in.Given as goal

abbrev pub invariant-loop-piece : goal.invariant-loop-piece
invariant-loop-piece l = l.numbers ≡ map short_in (take l.piece-index l.pieces)
