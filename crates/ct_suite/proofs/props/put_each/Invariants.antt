use Rattle.std.proofs.Common.{◌≡◌, map}
use Rattle.ct_suite.specs.Tests.{with_props}
use Rattle.ct_suite.specs.Props.{prop_of}
use Rattle.ct_suite.proofs.props.put_each.Given as goal

abbrev pub invariant-loop-pair : goal.invariant-loop-pair
invariant-loop-pair l =
    map prop_of l.keyed.entries ≡ with_props (map prop_of l.initial.keyed.entries) l.yielded
