use Rattle.std.proofs.Common.{ap, subst, map}
use Rattle.ct_history.specs.declared.plan.PlanParts.{PlanParts}
use Rattle.ct_core.specs.CoreValue.{CoreValue}
use Rattle.ct_worker.specs.Work.{terms_in}
use Rattle.ct_app.specs.Run.{HasRun}
use Rattle.ct_app.proofs.EndLemmas.{core_order, core_ran, unordered, unrun}
use Rattle.ct_trees.proofs.TreeRunLemmas.{core_ended, unopened_trees}
use Rattle.ct_trees.proofs.whole.run_whole.Goals as goal

pub returns-in-Ok-clause-ran : goal.returns-in-Ok-clause-ran
returns-in-Ok-clause-ran g c =
    core_ran (terms_in c.args.jobs.now c.args.plan) (map g.G.Gate.tells c.args.gates.now) (map g.G.Gate.tells c.run_trees-ran.new.gates) c.run_trees-ran.result.core c.into_parts-plan.result.0 c.into_parts-plan.result.1.entries.items
    c.into_parts-plan.ensures.plan c.into_parts-plan.ensures.history
    (subst (λ (p : PlanParts). HasRun (terms_in c.args.jobs.now p) (map g.G.Gate.tells c.args.gates.now) (map g.G.Gate.tells c.run_trees-ran.new.gates) c.run_trees-ran.result.core.plan c.run_trees-ran.result.core.entries) (ap (λ (k : CoreValue). k.plan) c.in-Ok.ensures.ok) c.run_trees-ran.ensures.ran)

pub returns-in-Ok-clause-ends : goal.returns-in-Ok-clause-ends
returns-in-Ok-clause-ends g c =
    core_ended c.args.trees.now (g.S.Sink.tells c.args.sink) (g.S.Sink.tells c.run_trees-ran.result.sink) c.run_trees-ran.result.core c.run_trees-ran.result.put c.into_parts-plan.result.0 c.into_parts-plan.result.1.entries.items c.outcome_of.result
    c.into_parts-plan.ensures.plan c.into_parts-plan.ensures.history c.run_trees-ran.ensures.puts c.run_trees-ran.ensures.ends c.run_trees-ran.ensures.stops c.outcome_of.ensures

pub returns-in-Err-clause-ran : goal.returns-in-Err-clause-ran
returns-in-Err-clause-ran g c = unrun (terms_in c.args.jobs.now c.args.plan) (map g.G.Gate.tells c.args.gates.now) c.in-Err.plan c.new.result.items c.new.ensures.items

pub returns-in-Err-clause-ends : goal.returns-in-Err-clause-ends
returns-in-Err-clause-ends g c = unopened_trees c.args.trees.now (g.S.Sink.tells c.args.sink) c.in-Err.plan c.new.result.items c.new.ensures.items

pub returns-in-Ok-clause-order : goal.returns-in-Ok-clause-order
returns-in-Ok-clause-order g c =
    core_order c.run_trees-ran.result.core c.into_parts-plan.result.0 c.into_parts-plan.result.1.entries.items c.into_parts-plan.ensures.plan c.into_parts-plan.ensures.history c.into_parts-plan.ensures.order

pub returns-in-Err-clause-order : goal.returns-in-Err-clause-order
returns-in-Err-clause-order g c = unordered c.in-Err.plan c.new.result.items c.new.ensures.items
