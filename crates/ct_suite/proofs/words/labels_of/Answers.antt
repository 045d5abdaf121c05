use Rattle.std.proofs.Common.{[]}
use Rattle.ct_suite.specs.Tests.{labels_in}
use Rattle.ct_suite.proofs.WordLemmas.{flat_map-next}
use Rattle.ct_suite.proofs.words.labels_of.Goals as goal

pub loop-prop-preserved : goal.loop-prop-preserved
loop-prop-preserved c =
    flat_map-next labels_in [] c.args.props.now c.loop-prop.prop-index c.prop-item.result c.loop-prop.labels.items c.append_labels.new.labels.items c.loop-prop-test.true c.prop-item.is c.loop-prop.invariant c.in_ok-append_labels.ensures
