use Rattle.std.proofs.Common.{take}
use Rattle.ct_base.specs.NameSets.{AreNames}
use Rattle.ct_base.proofs.names.name_set.Given as goal

abbrev pub invariant-loop-name : goal.invariant-loop-name
invariant-loop-name l = AreNames (take l.name-index l.names) l.set
