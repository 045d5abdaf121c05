use Rattle.std.proofs.Common.{take}
use Rattle.ct_explain.specs.Picture.{AreChained}
use Rattle.ct_explain.proofs.bar_lines.chained_of.Given as goal

abbrev pub invariant-loop-at : goal.invariant-loop-at
invariant-loop-at l = AreChained (take l.at l.links) l.chained
