use Rattle.std.proofs.Common.{◌≡◌, ◌+◌, ◌-◌, ◌^◌, ◌≤◌, min, drop}
use Rattle.ct_history.specs.Course.{runs}
use Rattle.ct_history.specs.Seen.{slots_used}
use Rattle.ct_history.proofs.open_start.used_slots.Given as goal

abbrev pub invariant-loop-at : goal.invariant-loop-at
invariant-loop-at l = (min (l.used + slots_used (runs (drop l.at l.running)) l.place) (2 ^ 64 - 1) ≡ min (slots_used (runs l.running) l.place) (2 ^ 64 - 1)) × (l.used ≤ 2 ^ 64 - 1)
