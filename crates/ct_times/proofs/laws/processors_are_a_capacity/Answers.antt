use Rattle.ct_times.proofs.CapacityLemmas.{processors_hold}
use Rattle.ct_times.proofs.laws.processors_are_a_capacity.Goals as goal

pub returns : goal.returns
returns c = processors_hold
