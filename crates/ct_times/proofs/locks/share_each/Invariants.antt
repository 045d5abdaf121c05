use Rattle.std.proofs.Common.{◌≡◌, List, ℕ, take}
use Rattle.ct_base.specs.Names.{is_among}
use Rattle.ct_times.specs.Locks.{lock_at, shared_if}
use Rattle.ct_times.proofs.locks.share_each.Given as goal

abbrev pub invariant-loop-name : goal.invariant-loop-name
invariant-loop-name l =
    (lock : List ℕ) → lock_at l.locks lock ≡ shared_if (is_among lock (take l.name-index l.names)) (lock_at l.fn.locks lock) l.test l.work
