use Rattle.std.proofs.Common.{◌≡◌, ℕ, ◌<◌, ◌≤◌, false}
use Rattle.ct_queue.specs.Ready.{is_member}
use Rattle.ct_queue.proofs.ready.Ready.after.Given as goal

abbrev pub invariant-loop-at : goal.invariant-loop-at
invariant-loop-at l = (l.initial.at ≤ l.at) × ((q : ℕ) → l.initial.at ≤ q → q < l.at → is_member l.self q ≡ false)
