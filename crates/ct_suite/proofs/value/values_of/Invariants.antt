use Rattle.std.proofs.Common.{◌≡◌, ◌++◌, length}
use Rattle.ct_suite.specs.Values.{values_of}
use Rattle.ct_suite.specs.Readers.{IsAtRest}
use Rattle.ct_suite.proofs.value.values_of.Given as goal

abbrev pub invariant-reads : goal.invariant-reads
invariant-reads l = record {
  rest : IsAtRest l.limits l.reader;
  same : l.reader.values ++ values_of l.table l.left ≡ values_of l.table l.args;
}

abbrev pub decreases-reads : goal.decreases-reads
decreases-reads l = length l.left
