use Rattle.std.proofs.Common.{◌≡◌, ◌^◌, take}
use Rattle.std.specs.Prelude.{min, ◌-◌}
use Rattle.ct_times.specs.Bounds.{blocks_taken}
use Rattle.ct_times.proofs.amounts.blocks_taken.Given as goal

abbrev pub invariant-loop-need : goal.invariant-loop-need
invariant-loop-need l = l.blocks ≡ min (blocks_taken l.kind l.block (take l.need-index l.needs)) (2 ^ 64 - 1)
