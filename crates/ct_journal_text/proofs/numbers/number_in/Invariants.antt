use Rattle.std.proofs.Common.{◌≡◌, take, fold}
use Rattle.ct_journal_text.specs.Guess.{with_digit}
use Rattle.ct_journal_text.proofs.numbers.number_in.Given as goal

abbrev pub invariant-loop-byte : goal.invariant-loop-byte
invariant-loop-byte l = l.number ≡ fold with_digit 0 (take l.byte-index l.text)
