use Rattle.std.proofs.Common.{◌≡◌, ◌++◌, map, take}
use Rattle.std.specs.Prelude.{flat_map}
use Rattle.ct_times.specs.Asked.{as_slots, slots_of_test}
use Rattle.ct_times.proofs.slots.ask_tests.Given as goal

abbrev pub invariant-loop-test : goal.invariant-loop-test
invariant-loop-test l = map as_slots l.asked.items ≡ map as_slots l.fn.asked.items ++ flat_map slots_of_test (take l.test-index l.tests)
