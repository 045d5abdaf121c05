use Rattle.std.proofs.Common.{◌≡◌, take, fold}
use Rattle.ct_cost.specs.Endings.{with_failed}
use Rattle.ct_cost.proofs.names.Names.add_failed.Given as goal

abbrev pub invariant-loop-test : goal.invariant-loop-test
invariant-loop-test l = l.self ≡ fold (with_failed l.courses) l.initial.self (take l.test-index l.tests)
