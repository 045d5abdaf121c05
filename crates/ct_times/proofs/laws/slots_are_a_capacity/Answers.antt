use Rattle.ct_times.proofs.SlotLemmas.{slots_hold}
use Rattle.ct_times.proofs.laws.slots_are_a_capacity.Goals as goal

pub returns : goal.returns
returns c = slots_hold
