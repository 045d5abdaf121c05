use Rattle.std.proofs.Common.{◌≡◌, ◌++◌, drop}
use Rattle.ct_app.specs.Lists.{labels_among}
use Rattle.ct_app.proofs.list.labels_of.Given as goal

abbrev pub invariant-loop-number : goal.invariant-loop-number
invariant-loop-number l = l.labels ++ labels_among l.props (drop l.number-index l.members) ≡ labels_among l.props l.members
