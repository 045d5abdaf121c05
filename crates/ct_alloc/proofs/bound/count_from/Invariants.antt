use Rattle.std.proofs.Common.{◌≡◌, ◌+◌, ◌*◌, ◌≤◌, ◌^◌, drop}
use Rattle.std.specs.Prelude.{sum_by}
use Rattle.ct_alloc.specs.Packing.{one_from}
use Rattle.ct_alloc.proofs.bound.count_from.Given as goal

abbrev pub invariant-loop-amount : goal.invariant-loop-amount
invariant-loop-amount l = (l.count + sum_by (one_from l.least) (drop l.amount-index l.amounts) ≡ sum_by (one_from l.least) l.amounts) × (l.count ≤ l.amount-index * 2 ^ 32)
