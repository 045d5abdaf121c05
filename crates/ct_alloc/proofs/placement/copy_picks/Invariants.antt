use Rattle.std.proofs.Common.{◌≡◌, take}
use Rattle.ct_alloc.proofs.placement.copy_picks.Given as goal

abbrev pub invariant-loop-pick : goal.invariant-loop-pick
invariant-loop-pick l = l.copies ≡ take l.pick-index l.picks
