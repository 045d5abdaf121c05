use Rattle.std.proofs.Common.{◌≡◌, ◌<◌, ◌^◌, ℕ, get_or, take}
use Rattle.ct_alloc.specs.Free.{slot_counts}
use Rattle.ct_alloc.proofs.free.copied.Given as goal

abbrev pub invariant-loop-resource : goal.invariant-loop-resource
invariant-loop-resource l = (l.copy ≡ take l.resource-index l.resources) × ((place : ℕ) → get_or (slot_counts l.copy) place 0 < 2 ^ 32)
