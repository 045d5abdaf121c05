use Rattle.std.proofs.Common.{◌≡◌, ◌++◌, map, take}
use Rattle.ct_times.specs.First as First
use Rattle.ct_times.specs.Asked.{as_slots}
use Rattle.ct_times.proofs.slots.ask_kinds.Given as goal

abbrev pub invariant-loop-resource : goal.invariant-loop-resource
invariant-loop-resource l = map as_slots l.asked.items ≡ map as_slots l.fn.asked.items ++ map First.slot_of (take l.resource-index l.resources)
