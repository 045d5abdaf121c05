use Rattle.std.proofs.Common.{◌≡◌, ◌≤◌, ◌-◌, ◌++◌, ℕ, List, drop, length}
use Rattle.ct_suite.specs.Readers.{IsReaderWithin, entries_with}
use Rattle.ct_suite.proofs.reader.Reader.take_piece.Given as goal

abbrev pub invariant-loop-at : goal.invariant-loop-at
invariant-loop-at l = record {
  fits : l.at ≤ length l.piece;
  within : IsReaderWithin l.limits l.self;
  same : (rest : List ℕ) → entries_with l.self (drop l.at l.piece ++ rest) ≡ entries_with l.initial.self (l.piece ++ rest);
}

abbrev pub decreases-loop-at : goal.decreases-loop-at
decreases-loop-at l = length l.piece - l.at
