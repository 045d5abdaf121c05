use Rattle.std.proofs.Common.{rules}
use Rattle.ct_regex.specs.Memory.{Leads}
use Rattle.ct_regex.proofs.MemoryLemmas.{read_back}
use Rattle.ct_regex.proofs.memory.Memory.link_byte.Goals as goal

pub returns-then-place-len-clause-remembers : goal.returns-then-place-len-clause-remembers
returns-then-place-len-clause-remembers c = λ steps h leads.
    read_back (Leads steps c.args.self.now) c.args.self.now.next.items c.args.at c.args.byte c.args.to (search rules) leads h
