use Rattle.ct_explain.proofs.AllowedLemmas.{waits_for_nothing}
use Rattle.ct_explain.proofs.laws.an_allowed_start_waits_for_nothing.Goals as goal

pub returns : goal.returns
returns c = waits_for_nothing
