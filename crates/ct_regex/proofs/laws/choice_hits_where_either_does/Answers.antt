use Rattle.ct_regex.proofs.LawLemmas.{choice_hits}
use Rattle.ct_regex.proofs.laws.choice_hits_where_either_does.Goals as goal

pub returns : goal.returns
returns c = choice_hits
