use Rattle.std.proofs.Common.{◌≡◌, [], take}
use Rattle.ct_suite.specs.Tests.{with_props}
use Rattle.ct_suite.proofs.props.have_own_keys.Given as goal

abbrev pub invariant-loop-at : goal.invariant-loop-at
invariant-loop-at l = with_props [] (take l.at l.pairs) ≡ take l.at l.pairs
