use Rattle.std.proofs.Common.{◌++◌}
use Rattle.ct_suite.specs.Values.{values_of}
use Rattle.ct_suite.proofs.value.values_of.Goals as goal

pub reads-init : goal.reads-init
reads-init c = record {
  rest = c.new-reader.ensures.rest c.args.limits.now;
  same = λ i. c.new-reader.ensures.values i ++ values_of c.args.table.now (c.reader-left.ensures i);
}
