use Rattle.std.proofs.Common.{◌∙◌, sym, ap, subst, Bool, true, map, inl}
use Rattle.std.specs.Prelude.{Result, Ok}
use Rattle.ct_base.specs.declared.sink.SinkFault.{SinkFault}
use Rattle.ct_history.specs.declared.plan.PlanParts.{PlanParts}
use Rattle.ct_core.specs.CoreValue.{CoreValue}
use Rattle.ct_worker.specs.Work.{terms_in}
use Rattle.ct_app.specs.Run.{BeginsReport}
use Rattle.ct_app.proofs.EndLemmas.{unrun}
use Rattle.ct_app.proofs.PoolLemmas.{header_stops}
use Rattle.ct_app.proofs.ReportLemmas.{body_puts}
use Rattle.ct_app.proofs.run.run.Goals as goal

pub returns-in-Ok-true-clause-puts : goal.returns-in-Ok-true-clause-puts
returns-in-Ok-true-clause-puts g c =
    let ran = c.run_tests in
    let begun = subst (λ (r : Result Bool SinkFault). BeginsReport c.args.core.plan (g.S.Sink.tells c.args.sink) (g.S.Sink.tells c.begin.new.sink) r) (c.in-Ok-true.is ∙ ap (λ (b : Bool). Ok b) c.in-Ok-true.field-0-test) c.begin.ensures in
    let now = subst (λ (p : PlanParts). BeginsReport p (g.S.Sink.tells c.args.sink) (g.S.Sink.tells c.begin.new.sink) (Ok true)) (sym ran.ensures.plan) begun in
    body_puts ran.result.core.plan ran.result.core.entries now.1 (g.S.Sink.tells c.args.sink) (g.S.Sink.tells c.begin.new.sink) (g.S.Sink.tells ran.result.sink) ran.result.put now.0 ran.ensures.puts

pub returns-in-Ok-false-clause-ran : goal.returns-in-Ok-false-clause-ran
returns-in-Ok-false-clause-ran g c = unrun (terms_in c.args.jobs.now c.args.core.plan) (map g.G.Gate.tells c.args.gates.now) c.args.core.plan c.args.core.entries (ap (λ (k : CoreValue). k.entries) c.requires.fresh)

pub returns-in-Ok-false-clause-puts : goal.returns-in-Ok-false-clause-puts
returns-in-Ok-false-clause-puts g c =
    let begun = subst (λ (r : Result Bool SinkFault). BeginsReport c.args.core.plan (g.S.Sink.tells c.args.sink) (g.S.Sink.tells c.begin.new.sink) r) (c.in-Ok-false.is ∙ ap (λ (b : Bool). Ok b) c.in-Ok-false.field-0-test) c.begin.ensures in
    begun.0 c.args.core.entries

pub returns-in-Err-clause-ran : goal.returns-in-Err-clause-ran
returns-in-Err-clause-ran g c = unrun (terms_in c.args.jobs.now c.args.core.plan) (map g.G.Gate.tells c.args.gates.now) c.args.core.plan c.args.core.entries (ap (λ (k : CoreValue). k.entries) c.requires.fresh)

pub returns-in-Ok-true-clause-stops : goal.returns-in-Ok-true-clause-stops
returns-in-Ok-true-clause-stops g c =
    let ran = c.run_tests in
    let begun = subst (λ (r : Result Bool SinkFault). BeginsReport c.args.core.plan (g.S.Sink.tells c.args.sink) (g.S.Sink.tells c.begin.new.sink) r) (c.in-Ok-true.is ∙ ap (λ (b : Bool). Ok b) c.in-Ok-true.field-0-test) c.begin.ensures in
    let now = subst (λ (p : PlanParts). BeginsReport p (g.S.Sink.tells c.args.sink) (g.S.Sink.tells c.begin.new.sink) (Ok true)) (sym ran.ensures.plan) begun in
    header_stops ran.result.core.plan ran.result.core.entries (g.S.Sink.tells c.args.sink) (g.S.Sink.tells c.begin.new.sink) (g.S.Sink.tells ran.result.sink) ran.result.put now.0 ran.ensures.stops

pub returns-in-Err-clause-stops : goal.returns-in-Err-clause-stops
returns-in-Err-clause-stops g c = inl (ap (λ (k : CoreValue). k.entries) c.requires.fresh)
