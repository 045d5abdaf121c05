use Rattle.std.proofs.Common.{◌≡◌, ◌+◌, ◌*◌, ◌≤◌, ◌^◌, drop}
use Rattle.std.specs.Prelude.{sum_by}
use Rattle.ct_alloc.specs.Packing.{rooms}
use Rattle.ct_alloc.proofs.bound.rooms_for.Given as goal

abbrev pub invariant-loop-amount : goal.invariant-loop-amount
invariant-loop-amount l = (l.count + sum_by (rooms l.least) (drop l.amount-index l.free) ≡ sum_by (rooms l.least) l.free) × (l.count ≤ l.amount-index * 2 ^ 32)
