use Rattle.std.proofs.Common.{◌≡◌, ◌+◌, ◌≤◌, drop}
use Rattle.ct_alloc.specs.Placement.{slots_at}
use Rattle.ct_alloc.proofs.free.take_at_most.Given as goal

abbrev pub invariant-loop-pick : goal.invariant-loop-pick
invariant-loop-pick l =
    (l.left ≤ l.initial.left)
    × (slots_at l.place l.picks + l.left ≡ slots_at l.place (drop l.pick-index l.picks) + l.initial.left)
