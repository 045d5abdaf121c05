use Rattle.std.proofs.Common.{◌≡◌, take}
use Rattle.ct_core.proofs.lines.are_same_needs.Given as goal

abbrev pub invariant-loop-at : goal.invariant-loop-at
invariant-loop-at l = take l.at l.needs ≡ take l.at l.others
