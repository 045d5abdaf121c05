use Rattle.std.proofs.Common.{◌≡◌, ◌++◌, ℕ, List}
use Rattle.std.specs.Vec.Iter.{into_iter_items}
use Rattle.ct_suite.specs.Values.{argument_text}
use Rattle.ct_suite.specs.Readers.{IsReaderWithin, entries_with}
use Rattle.ct_suite.proofs.reader.Reader.take_parts.Given as goal

abbrev pub invariant-loop-part : goal.invariant-loop-part
invariant-loop-part l = record {
  within : IsReaderWithin l.limits l.self;
  same : (rest : List ℕ) → entries_with l.self (argument_text l.table (into_iter_items l.part-iterator) ++ rest) ≡ entries_with l.initial.self (argument_text l.table l.fn.parts ++ rest);
}
