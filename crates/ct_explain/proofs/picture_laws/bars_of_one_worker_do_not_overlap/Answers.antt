use Rattle.ct_explain.proofs.ApartLemmas.{do-not-overlap}
use Rattle.ct_explain.proofs.TimeLemmas.{do-not-overlap-in-time}
use Rattle.ct_explain.proofs.picture_laws.bars_of_one_worker_do_not_overlap.Goals as goal

pub returns-clause-order : goal.returns-clause-order
returns-clause-order c = do-not-overlap

pub returns-clause-time : goal.returns-clause-time
returns-clause-time c = do-not-overlap-in-time
