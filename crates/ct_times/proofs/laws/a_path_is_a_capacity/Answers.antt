use Rattle.ct_times.proofs.PathLemmas.{path_holds}
use Rattle.ct_times.proofs.laws.a_path_is_a_capacity.Goals as goal

pub returns : goal.returns
returns c = path_holds
