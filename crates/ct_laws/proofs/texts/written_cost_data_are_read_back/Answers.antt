use Rattle.ct_laws.proofs.CostLemmas.{costs_back}
use Rattle.ct_laws.proofs.ReadLemmas.{read_back}
use Rattle.ct_laws.proofs.texts.written_cost_data_are_read_back.Goals as goal

pub returns-clause-back : goal.returns-clause-back
returns-clause-back c = costs_back

pub returns-clause-read : goal.returns-clause-read
returns-clause-read c = read_back
