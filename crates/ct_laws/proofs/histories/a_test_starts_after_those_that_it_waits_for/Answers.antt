use Rattle.ct_laws.proofs.OverLemmas.{over}
use Rattle.ct_laws.proofs.PlaceLemmas.{waited}
use Rattle.ct_laws.proofs.histories.a_test_starts_after_those_that_it_waits_for.Goals as goal

pub returns-clause-waited : goal.returns-clause-waited
returns-clause-waited c = waited

pub returns-clause-over : goal.returns-clause-over
returns-clause-over c = over
