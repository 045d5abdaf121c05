use Rattle.std.proofs.Common.{◌≡◌, ◌++◌, drop}
use Rattle.ct_explain.specs.Scale.{moments_within}
use Rattle.ct_explain.proofs.scale.moments_within.Given as goal

abbrev pub invariant-loop-mark : goal.invariant-loop-mark
invariant-loop-mark l = l.moments ++ moments_within (drop l.mark-index l.marks) l.step l.length ≡ moments_within l.marks l.step l.length
