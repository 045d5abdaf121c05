use Rattle.std.proofs.Common.{[], refl, ◌∙◌}
use Rattle.ct_core.specs.ScriptValue.{told_of_script}
use Rattle.ct_app.proofs.GateOrderLemmas.{as_many}
use Rattle.ct_load.proofs.RunLemmas.{completed_run}
use Rattle.ct_load.proofs.RunnableLemmas.{has_no_other_end}
use Rattle.ct_load.proofs.run.run_of.Goals as goal

pub returns-in-Completed : goal.returns-in-Completed
returns-in-Completed g c =
    let run = c.ctest_main-run.result in
    let ran = c.ctest_main-run.ensures in
    completed_run c.args.count run c.as_slice.result.now [] c.in_ok-files.files c.in_ok-gates.gates.items c.new-sink.result (c.as_slice.ensures.value ∙ c.in_ok-words.ensures) refl c.in_ok-files.ensures c.in_ok-gates.ensures.are c.new-sink.ensures c.in-Completed.is ran.answer ran.meant ran.complete (as_many told_of_script c.in_ok-gates.gates.items run.gates.items ran.all) ran.others

pub unreachable-requires : goal.unreachable-requires
unreachable-requires g c =
    let run = c.ctest_main-run.result in
    has_no_other_end c.args.count run c.as_slice.result.now [] c.in_ok-files.files c.in_ok-gates.gates.items c.new-sink.result (c.as_slice.ensures.value ∙ c.in_ok-words.ensures) refl c.in_ok-files.ensures c.in_ok-gates.ensures.are c.new-sink.ensures c.requires c.ctest_main-run.ensures.complete c.in_default.not-Completed c.in_default.not-Memory
