use Rattle.std.proofs.Common.{◌≡◌, ◌++◌}
use Rattle.std.specs.Vec.Iter.{into_iter_items}
use Rattle.ct_suite.specs.Values.{argument_text}
use Rattle.ct_suite.specs.Readers.{IsReaderWithin}
use Rattle.ct_suite.proofs.reader.Reader.join.Given as goal

abbrev pub invariant-loop-part : goal.invariant-loop-part
invariant-loop-part l = record {
  within : IsReaderWithin l.limits l.self;
  values : l.self.values ≡ l.initial.self.values;
  held : l.self.held ≡ l.initial.self.held;
  same : l.self.text.items ++ argument_text l.table (into_iter_items l.part-iterator) ≡ l.initial.self.text.items ++ argument_text l.table l.fn.parts;
}
