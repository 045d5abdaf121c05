use Rattle.ct_laws.proofs.PlaceLemmas.{one_of_test}
use Rattle.ct_laws.proofs.histories.a_test_has_one_attempt_at_a_time.Goals as goal

pub returns : goal.returns
returns c = one_of_test
