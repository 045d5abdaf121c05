use Rattle.ct_laws.proofs.NumberLemmas.{numbered}
use Rattle.ct_laws.proofs.histories.attempts_are_numbered_in_order.Goals as goal

pub returns : goal.returns
returns c = numbered
