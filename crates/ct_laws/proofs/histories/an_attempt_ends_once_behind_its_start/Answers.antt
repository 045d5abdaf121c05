use Rattle.ct_laws.proofs.PlaceLemmas.{ends_own_start}
use Rattle.ct_laws.proofs.histories.an_attempt_ends_once_behind_its_start.Goals as goal

pub returns : goal.returns
returns c = ends_own_start
