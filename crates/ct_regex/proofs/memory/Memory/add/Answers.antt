use Rattle.std.proofs.Common.{rules, List, ap, ◌∙◌, Bool, arith}
use Rattle.ct_regex.specs.Stand.{a_stand}
use Rattle.ct_regex.proofs.MemoryLemmas.{stand_in-set, stand_in-set_same, leads-set}
use Rattle.ct_regex.proofs.memory.Memory.add.Goals as goal

pub returns-clause-remembers : goal.returns-clause-remembers
returns-clause-remembers c = λ steps h at byte to small e.
    let was = h at byte to small e in
    (omega (arith, was.0), omega (arith, was.1), leads-set steps c.args.self.now.sets.items c.args.self.now.count _ at byte to was.0 was.1 was.2)

pub returns-clause-same : goal.returns-clause-same
returns-clause-same c =
    stand_in-set_same c.args.self.now.sets.items c.args.self.now.count _ (search rules)
    ∙ ap (λ (marks : List Bool). a_stand marks c.args.last) c.copy_from_slice.ensures.items

pub returns-clause-kept : goal.returns-clause-kept
returns-clause-kept c = λ at h. stand_in-set c.args.self.now.sets.items c.args.self.now.count at _ h
