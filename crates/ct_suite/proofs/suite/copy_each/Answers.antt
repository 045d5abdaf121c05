use Rattle.std.proofs.Common.{◌∙◌, ap, get_or, map}
use Rattle.ct_suite.specs.Tests.{taking_props}
use Rattle.ct_suite.specs.Entries.{changed, def_of}
use Rattle.ct_suite.proofs.PlaceLemmas.{changed_at-next}
use Rattle.ct_suite.proofs.suite.copy_each.Goals as goal

pub loop-place-preserved : goal.loop-place-preserved
loop-place-preserved c =
    let places = c.args.places.now in
    let at = c.loop-place.place-index in
    let before = map def_of c.loop-place.tests.items in record {
      len = c.in_ok-set_at.ensures.len ∙ c.loop-place.invariant.len;
      rest = changed_at-next (taking_props c.args.pairs.now) places at before (map def_of c.set_at.new.tests.items) c.loop-place-test.true (c.in_ok-set_at.ensures.is ∙ ap (λ pairs. changed (taking_props pairs) (get_or places at 0) before) c.in_ok-copy_pairs.ensures) ∙ c.loop-place.invariant.rest;
    }
