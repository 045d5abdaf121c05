use Rattle.std.proofs.Common.{rules, ◌<◌, ℕ}
use Rattle.std.specs.Prelude.{sum_by}
use Rattle.ct_alloc.specs.Packing.{one_from, reaching, rooms}
use Rattle.ct_alloc.proofs.BoundLemmas.{none-count, none-sum}
use Rattle.ct_alloc.proofs.bound.is_overfull_from.Goals as goal

pub returns-then-sum_from : goal.returns-then-sum_from
returns-then-sum_from c =
    let less : sum_by (reaching c.args.least) c.args.free.now < sum_by (reaching c.args.least) c.args.sizes.now = search rules in
    λ _. none-sum c.args.free.now c.args.sizes.now c.args.least less

pub returns-then-rooms_for-count_from : goal.returns-then-rooms_for-count_from
returns-then-rooms_for-count_from c =
    let size : ℕ = c.args.least in
    let less : sum_by (rooms size) c.args.free.now < sum_by (one_from size) c.args.sizes.now = search rules in
    λ _. none-count c.args.free.now c.args.sizes.now size c.if-least-gt0.true less
