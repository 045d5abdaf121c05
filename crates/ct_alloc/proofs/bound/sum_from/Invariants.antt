use Rattle.std.proofs.Common.{◌≡◌, ◌+◌, ◌*◌, ◌≤◌, ◌^◌, drop}
use Rattle.std.specs.Prelude.{sum_by}
use Rattle.ct_alloc.specs.Packing.{reaching}
use Rattle.ct_alloc.proofs.bound.sum_from.Given as goal

abbrev pub invariant-loop-amount : goal.invariant-loop-amount
invariant-loop-amount l = (l.sum + sum_by (reaching l.least) (drop l.amount-index l.amounts) ≡ sum_by (reaching l.least) l.amounts) × (l.sum ≤ l.amount-index * 2 ^ 32)
