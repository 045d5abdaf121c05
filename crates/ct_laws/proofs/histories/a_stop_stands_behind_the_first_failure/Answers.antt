use Rattle.ct_laws.proofs.StopLemmas.{stop_behind, stop_there}
use Rattle.ct_laws.proofs.histories.a_stop_stands_behind_the_first_failure.Goals as goal

pub returns-clause-behind : goal.returns-clause-behind
returns-clause-behind c = stop_behind

pub returns-clause-due : goal.returns-clause-due
returns-clause-due c = stop_there
