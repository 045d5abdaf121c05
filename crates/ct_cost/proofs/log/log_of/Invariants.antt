use Rattle.std.proofs.Common.{◌≡◌, take, flat_map}
use Rattle.ct_cost.specs.Endings.{log_by}
use Rattle.ct_cost.proofs.log.log_of.Given as goal

abbrev pub invariant-loop-test : goal.invariant-loop-test
invariant-loop-test l = l.text ≡ flat_map (log_by l.courses) (take l.test-index l.tests)
