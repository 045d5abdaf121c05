use Rattle.std.proofs.Common.{List, ℕ, map, take}
use Rattle.std.specs.Borrow.{Bor}
use Rattle.ct_times.specs.Locks.{IsLongestSoFar, lock_at, lock_micros}
use Rattle.ct_times.proofs.locks.longest.Given as goal

abbrev pub invariant-loop-at : goal.invariant-loop-at
invariant-loop-at l =
    IsLongestSoFar (λ lock. lock_micros l.lone (lock_at l.locks lock)) (map (λ (name : Bor (List ℕ)). name.now) (take l.at l.held)) l.found l.most
