use Rattle.ct_testfile.proofs.IfLemmas.{other-whole, if-whole, both-whole}
use Rattle.ct_testfile.proofs.laws.an_if_may_stand_in_a_branch.Goals as goal

pub returns-clause-other : goal.returns-clause-other
returns-clause-other c = other-whole

pub returns-clause-whole : goal.returns-clause-whole
returns-clause-whole c = if-whole

pub returns-clause-joined : goal.returns-clause-joined
returns-clause-joined c = both-whole
