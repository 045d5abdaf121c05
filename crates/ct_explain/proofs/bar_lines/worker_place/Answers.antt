use Rattle.std.proofs.Common.{rules, ℕ, ltb, sym}
use Rattle.std.proofs.lemmas.List.Sorted.{IsPartitionPoint-from_clause, IsPartitionedBy-ltb}
use Rattle.ct_explain.proofs.WorkerLemmas.{count-point}
use Rattle.ct_explain.proofs.bar_lines.worker_place.Goals as goal

pub returns-clause-is : goal.returns-clause-is
returns-clause-is c =
    let workers = c.args.workers.now in
    let place = c.partition_point.result in
    let parted = IsPartitionedBy-ltb (λ (n : ℕ). n) workers c.args.worker c.requires in
    let point = IsPartitionPoint-from_clause (λ (n : ℕ). ltb n c.args.worker) workers place c.partition_point.ensures.partitioned parted (λ a r q k. search rules) in
    sym (count-point (λ (n : ℕ). ltb n c.args.worker) workers place c.partition_point.ensures.bound point)
