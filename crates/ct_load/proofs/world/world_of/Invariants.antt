use Rattle.std.proofs.Common.{◌≡◌}
use Rattle.ct_load.specs.World.{world_of}
use Rattle.ct_load.proofs.world.world_of.Given as goal

abbrev pub invariant-loop-before : goal.invariant-loop-before
invariant-loop-before l = l.world ≡ world_of l.before
