use Rattle.ct_graph.proofs.FoundLemmas.{known_found}
use Rattle.ct_graph.proofs.known.Known.get.Goals as goal

pub returns : goal.returns
returns c = known_found c.args.names.now c.args.self.now.tests.entries c.get.result c.get.ensures.value
