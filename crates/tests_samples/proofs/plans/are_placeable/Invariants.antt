use Rattle.std.proofs.Common.{take}
use Rattle.std.specs.Prelude.{All}
use Rattle.ct_history.specs.Plan.{IsPlaceable}
use Rattle.tests_samples.proofs.plans.are_placeable.Given as goal

abbrev pub invariant-loop-test : goal.invariant-loop-test
invariant-loop-test l = All (IsPlaceable l.resources) (take l.test-index l.tests)
