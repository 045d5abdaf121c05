use Rattle.std.proofs.Common.{ap, subst, map}
use Rattle.ct_history.specs.declared.plan.PlanParts.{PlanParts}
use Rattle.ct_core.specs.CoreValue.{CoreValue}
use Rattle.ct_worker.specs.Work.{terms_in}
use Rattle.ct_app.specs.Run.{HasRun}
use Rattle.ct_app.proofs.EndLemmas.{core_ends, core_order, core_ran, unopened_ends, unordered, unrun}
use Rattle.ct_app.proofs.folder.run_plan.Goals as goal

pub returns-in-Ok-clause-ran : goal.returns-in-Ok-clause-ran
returns-in-Ok-clause-ran g c =
    core_ran (terms_in c.args.jobs.now c.args.plan) (map g.G.Gate.tells c.args.gates.now) (map g.G.Gate.tells c.run-core.new.gates) c.run-core.result.core c.into_parts-plan.result.0 c.into_parts-plan.result.1.entries.items
    c.into_parts-plan.ensures.plan c.into_parts-plan.ensures.history
    (subst (λ (p : PlanParts). HasRun (terms_in c.args.jobs.now p) (map g.G.Gate.tells c.args.gates.now) (map g.G.Gate.tells c.run-core.new.gates) c.run-core.result.core.plan c.run-core.result.core.entries) (ap (λ (k : CoreValue). k.plan) c.in-Ok.ensures.ok) c.run-core.ensures.ran)

pub returns-in-Ok-clause-ends : goal.returns-in-Ok-clause-ends
returns-in-Ok-clause-ends g c =
    core_ends (g.S.Sink.tells c.args.sink) (g.S.Sink.tells c.run-core.result.sink) c.run-core.result.core c.run-core.result.put c.into_parts-plan.result.0 c.into_parts-plan.result.1.entries.items c.outcome_of.result
    c.into_parts-plan.ensures.plan c.into_parts-plan.ensures.history c.run-core.ensures.puts c.run-core.ensures.ends c.run-core.ensures.stops c.outcome_of.ensures

pub returns-in-Err-clause-ran : goal.returns-in-Err-clause-ran
returns-in-Err-clause-ran g c = unrun (terms_in c.args.jobs.now c.args.plan) (map g.G.Gate.tells c.args.gates.now) c.in-Err.plan c.new.result.items c.new.ensures.items

pub returns-in-Err-clause-ends : goal.returns-in-Err-clause-ends
returns-in-Err-clause-ends g c = unopened_ends (g.S.Sink.tells c.args.sink) c.in-Err.plan c.new.result.items c.new.ensures.items

pub returns-in-Ok-clause-order : goal.returns-in-Ok-clause-order
returns-in-Ok-clause-order g c =
    core_order c.run-core.result.core c.into_parts-plan.result.0 c.into_parts-plan.result.1.entries.items c.into_parts-plan.ensures.plan c.into_parts-plan.ensures.history c.into_parts-plan.ensures.order

pub returns-in-Err-clause-order : goal.returns-in-Err-clause-order
returns-in-Err-clause-order g c = unordered c.in-Err.plan c.new.result.items c.new.ensures.items
