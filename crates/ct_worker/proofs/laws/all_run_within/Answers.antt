use Rattle.ct_worker.proofs.RunLemmas.{lent_runs_within}
use Rattle.ct_worker.proofs.laws.all_run_within.Goals as goal

pub returns : goal.returns
returns c = lent_runs_within
