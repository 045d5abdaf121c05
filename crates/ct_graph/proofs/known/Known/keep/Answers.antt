use Rattle.ct_graph.proofs.FoundLemmas.{knows_more}
use Rattle.ct_graph.proofs.known.Known.keep.Goals as goal

pub returns : goal.returns
returns c = λ find was are. knows_more find c.args.names c.args.tests c.args.self.now.tests c.insert.new.self was are c.in_ok-insert.ensures.updates
