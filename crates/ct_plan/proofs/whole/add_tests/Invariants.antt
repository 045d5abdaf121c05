use Rattle.std.proofs.Common.{◌≡◌, ◌++◌, map, take}
use Rattle.ct_history.specs.Parts.{renumbered}
use Rattle.ct_plan.proofs.whole.add_tests.Given as goal

abbrev pub invariant-loop-test : goal.invariant-loop-test
invariant-loop-test l = l.tests ≡ l.initial.tests ++ map (renumbered l.offset) (take l.test-index l.more)
