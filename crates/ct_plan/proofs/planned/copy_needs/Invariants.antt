use Rattle.std.proofs.Common.{◌≡◌, take}
use Rattle.ct_plan.proofs.planned.copy_needs.Given as goal

abbrev pub invariant-loop-need : goal.invariant-loop-need
invariant-loop-need l = l.copies ≡ take l.need-index l.needs
