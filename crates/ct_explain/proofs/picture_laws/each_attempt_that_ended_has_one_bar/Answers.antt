use Rattle.ct_explain.proofs.LawLemmas.{shows-each-end}
use Rattle.ct_explain.proofs.picture_laws.each_attempt_that_ended_has_one_bar.Goals as goal

pub returns : goal.returns
returns c = shows-each-end
