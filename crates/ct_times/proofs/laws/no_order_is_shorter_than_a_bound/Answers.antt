use Rattle.ct_times.proofs.BoundLemmas.{bound_least}
use Rattle.ct_times.proofs.laws.no_order_is_shorter_than_a_bound.Goals as goal

pub returns : goal.returns
returns c = bound_least
