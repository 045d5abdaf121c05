use Rattle.std.proofs.Common.{◌∙◌, map}
use Rattle.ct_suite.specs.Tests.{taking_labels}
use Rattle.ct_suite.specs.Entries.{def_of}
use Rattle.ct_suite.proofs.PlaceLemmas.{changed_at-next}
use Rattle.ct_suite.proofs.suite.label_each.Goals as goal

pub loop-place-preserved : goal.loop-place-preserved
loop-place-preserved c = record {
  len = c.in_ok-label_at.ensures.len ∙ c.loop-place.invariant.len;
  rest = changed_at-next (taking_labels c.args.labels.now) c.args.places.now c.loop-place.place-index (map def_of c.loop-place.tests.items) (map def_of c.label_at.new.tests.items) c.loop-place-test.true c.in_ok-label_at.ensures.is ∙ c.loop-place.invariant.rest;
}
