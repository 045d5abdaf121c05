use Rattle.std.proofs.Common.{◌≡◌, take, fold}
use Rattle.ct_cost.specs.Endings.{after_ending}
use Rattle.ct_cost.proofs.lines.Lines.add_tests.Given as goal

abbrev pub invariant-loop-test : goal.invariant-loop-test
invariant-loop-test l = l.self ≡ fold (after_ending l.courses) l.initial.self (take l.test-index l.tests)
