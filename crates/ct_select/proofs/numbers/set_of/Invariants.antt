use Rattle.std.proofs.Common.{take}
use Rattle.ct_select.specs.Others.{AreOthers}
use Rattle.ct_select.proofs.numbers.set_of.Given as goal

abbrev pub invariant-loop-number : goal.invariant-loop-number
invariant-loop-number l = AreOthers (take l.number-index l.numbers) l.others
