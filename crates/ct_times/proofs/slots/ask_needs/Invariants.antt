use Rattle.std.proofs.Common.{◌≡◌, ◌++◌, map, take}
use Rattle.ct_times.specs.First as First
use Rattle.ct_times.specs.Asked.{as_slots}
use Rattle.ct_times.proofs.slots.ask_needs.Given as goal

abbrev pub invariant-loop-need : goal.invariant-loop-need
invariant-loop-need l = map as_slots l.asked.items ≡ map as_slots l.fn.asked.items ++ map First.slots_of (take l.need-index l.needs)
