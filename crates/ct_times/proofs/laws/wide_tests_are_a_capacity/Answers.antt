use Rattle.ct_times.proofs.CapacityLemmas.{wide_hold}
use Rattle.ct_times.proofs.laws.wide_tests_are_a_capacity.Goals as goal

pub returns : goal.returns
returns c = wide_hold
