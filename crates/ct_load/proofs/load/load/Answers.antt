use Rattle.std.proofs.Common.{rules, ◌≡◌, subst, sym, inr, Err}
use Rattle.std.specs.Prelude.{Result}
use Rattle.ct_base.specs.declared.sink.SinkFault.{SinkFault}
use Rattle.ct_base.specs.declared.sink.SinkFault.TheVariants.{NoMemory}
use Rattle.ct_load.specs.Load.{EndsEarly, PutsSummary}
use Rattle.ct_load.proofs.RunLemmas.{short_load}
use Rattle.ct_load.proofs.load.load.Goals as goal

pub returns-in-Err-NoMemory : goal.returns-in-Err-NoMemory
returns-in-Err-NoMemory g c =
    let before = g.S.Sink.tells c.args.sink in
    let now = g.S.Sink.tells c.put_summary.new.sink in
    let loaded = c.without_memory-in-Err-NoMemory.result in
    let ends = c.without_memory-in-Err-NoMemory.ensures in
    let gave : c.put_summary.result ≡ Err NoMemory = search rules in
    let puts = subst (λ (r : Result (Unit {0}) SinkFault). PutsSummary c.in-Ok.run' before now r) gave c.put_summary.ensures in
    let short : EndsEarly c.args.count before now = inr (c.in-Ok.run', record { ran = c.in-Ok.ensures; summary = puts }) in
    short_load c.args.count before (g.S.Sink.tells loaded.sink) loaded.run loaded.status ends.none ends.status
    (subst (λ sink. EndsEarly c.args.count before (g.S.Sink.tells sink)) (sym ends.sink) short)
