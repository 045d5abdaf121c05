use Rattle.std.proofs.Common.{rules}
use Rattle.ct_props.proofs.unchecked.Unchecked.of.Goals as goal

pub returns : goal.returns
returns c = record {
  fixtures = c.in_ok-of.ensures;
  waits = c.in_ok-of-2.ensures;
  labels = search rules;
  surroundings = c.in_ok-of-3.ensures;
}
