use Rattle.ct_times.proofs.CapacityLemmas.{lock_holds}
use Rattle.ct_times.proofs.laws.a_lock_is_a_capacity.Goals as goal

pub returns : goal.returns
returns c = lock_holds
