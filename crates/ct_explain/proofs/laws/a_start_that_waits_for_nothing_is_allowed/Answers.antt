use Rattle.ct_explain.proofs.NothingLemmas.{allowed_by_nothing, meets_each}
use Rattle.ct_explain.proofs.laws.a_start_that_waits_for_nothing_is_allowed.Goals as goal

pub returns-clause-meets : goal.returns-clause-meets
returns-clause-meets c = meets_each

pub returns-clause-allowed : goal.returns-clause-allowed
returns-clause-allowed c = allowed_by_nothing
