use Rattle.std.proofs.Common.{◌≡◌}
use Rattle.ct_suite.specs.Values.{texts}
use Rattle.ct_suite.proofs.value.texts.Given as goal

abbrev pub invariant-loop-value : goal.invariant-loop-value
invariant-loop-value l = l.names ≡ texts l.yielded
