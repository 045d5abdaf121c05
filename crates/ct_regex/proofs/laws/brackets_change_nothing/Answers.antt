use Rattle.ct_regex.proofs.LawLemmas.{bracketed_hits}
use Rattle.ct_regex.proofs.ReadBackLemmas.{brackets_alike}
use Rattle.ct_regex.proofs.laws.brackets_change_nothing.Goals as goal

pub returns-clause-trees : goal.returns-clause-trees
returns-clause-trees c = bracketed_hits

pub returns-clause-patterns : goal.returns-clause-patterns
returns-clause-patterns c = brackets_alike
