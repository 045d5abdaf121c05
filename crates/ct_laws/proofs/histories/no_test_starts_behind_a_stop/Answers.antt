use Rattle.ct_laws.proofs.PlaceLemmas.{stop_last}
use Rattle.ct_laws.proofs.histories.no_test_starts_behind_a_stop.Goals as goal

pub returns : goal.returns
returns c = stop_last
