use Rattle.std.proofs.Common.{◌≡◌, ◌+◌, ◌-◌, ◌^◌, ◌≤◌, min, drop}
use Rattle.ct_alloc.specs.Placement.{slots_at}
use Rattle.ct_explain.proofs.slot_wait.slots_at.Given as goal

abbrev pub invariant-loop-pick : goal.invariant-loop-pick
invariant-loop-pick l = (min (l.slots + slots_at l.place (drop l.pick-index l.picks)) (2 ^ 64 - 1) ≡ min (slots_at l.place l.picks) (2 ^ 64 - 1)) × (l.slots ≤ 2 ^ 64 - 1)
