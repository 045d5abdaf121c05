use Rattle.ct_times.proofs.ChainLemmas.{has_one_chain}
use Rattle.ct_times.proofs.laws.a_history_has_one_chain.Goals as goal

pub returns : goal.returns
returns c = has_one_chain
