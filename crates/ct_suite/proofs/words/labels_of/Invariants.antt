use Rattle.std.proofs.Common.{◌≡◌, take}
use Rattle.ct_suite.specs.Tests.{labels_of}
use Rattle.ct_suite.proofs.words.labels_of.Given as goal

abbrev pub invariant-loop-prop : goal.invariant-loop-prop
invariant-loop-prop l = l.labels.items ≡ labels_of (take l.prop-index l.props)
