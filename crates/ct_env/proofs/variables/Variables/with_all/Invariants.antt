use Rattle.std.proofs.Common.{take}
use Rattle.ct_env.specs.Variables.{SetsAll}
use Rattle.ct_env.proofs.variables.Variables.with_all.Given as goal

abbrev pub invariant-loop-pair : goal.invariant-loop-pair
invariant-loop-pair l = SetsAll (take l.pair-index l.pairs) l.fn.self l.variables
