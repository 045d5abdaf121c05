use Rattle.std.proofs.Common.{◌≡◌, take}
use Rattle.ct_times.specs.Amounts.{blocks}
use Rattle.ct_times.proofs.slots.blocks_of_kind.Given as goal

abbrev pub invariant-loop-resource : goal.invariant-loop-resource
invariant-loop-resource l = l.blocks ≡ blocks l.slots.kind.now l.slots.block (take l.resource-index l.resources)
