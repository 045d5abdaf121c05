use Rattle.std.proofs.Common.{rules}
use Rattle.ct_regex.proofs.MemoryLemmas.{leads_one}
use Rattle.ct_regex.proofs.memory.Memory.link.Goals as goal

pub returns-then-bytes-eq1-clause-remembers : goal.returns-then-bytes-eq1-clause-remembers
returns-then-bytes-eq1-clause-remembers c = λ steps h leads.
    c.link_byte.ensures.remembers steps h (leads_one steps c.args.self.now c.args.at c.args.bytes.now c.args.to (search rules) leads)
