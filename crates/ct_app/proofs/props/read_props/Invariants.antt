use Rattle.std.proofs.Common.{◌≡◌, ◌+◌}
use Rattle.ct_app.proofs.TestLemmas.{AreRead}
use Rattle.ct_app.proofs.props.read_props.Given as goal

abbrev pub invariant-loop-def : goal.invariant-loop-def
invariant-loop-def l = AreRead l.defs l.def-index l.props × (l.number ≡ l.def-index + 1)
