use Rattle.std.proofs.Common.{◌≡◌, []}
use Rattle.ct_suite.specs.Tests.{with_props}
use Rattle.ct_suite.proofs.props.in_turn.Given as goal

abbrev pub invariant-loop-pair : goal.invariant-loop-pair
invariant-loop-pair l = l.props.items ≡ with_props [] l.yielded
