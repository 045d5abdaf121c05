use Rattle.std.proofs.Common.{rules}
use Rattle.std.proofs.lemmas.List.Sorted.{IsPartitionPoint-from_clause}
use Rattle.ct_core.specs.declared.gate.Told.{Told}
use Rattle.ct_core.specs.ScriptValue.{is_before}
use Rattle.ct_core.proofs.ScriptLemmas.{before_in_front}
use Rattle.ct_core.proofs.script.place_of.Goals as goal

pub returns : goal.returns
returns c =
    let told = c.args.told.now in
    let parted = before_in_front told c.requires c.args.test c.args.attempt in
    IsPartitionPoint-from_clause (λ (t : Told). is_before t c.args.test c.args.attempt) told c.partition_point.result c.partition_point.ensures.partitioned parted (λ a r q k. search rules)
