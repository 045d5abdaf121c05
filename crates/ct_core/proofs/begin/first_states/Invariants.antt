use Rattle.std.proofs.Common.{◌≡◌, map, take}
use Rattle.ct_core.specs.Begin.{first_state}
use Rattle.ct_core.proofs.begin.first_states.Given as goal

abbrev pub invariant-loop-test : goal.invariant-loop-test
invariant-loop-test l = l.states.items ≡ map first_state (take l.test-index l.tests)
