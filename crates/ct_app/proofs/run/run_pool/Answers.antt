use Rattle.std.proofs.Common.{◌≡◌, ◌∙◌, sym, ap, subst, ℕ, min, length, map}
use Rattle.std.specs.Prelude.{Option}
use Rattle.std.proofs.lemmas.List.{length-map}
use Rattle.ct_core.specs.CoreValue.{CoreValue}
use Rattle.ct_worker.specs.State.{StateValue, put_of}
use Rattle.ct_worker.specs.Work.{terms_in}
use Rattle.ct_worker.specs.declared.state.Halt.{Halt}
use Rattle.ct_app.specs.Run.{HasRun}
use Rattle.ct_app.proofs.PoolLemmas.{pool_ends, pool_halted, pool_puts, pooled_run, rest_stays}
use Rattle.ct_app.proofs.run.run_pool.Goals as goal

pub returns-clause-ran : goal.returns-clause-ran
returns-clause-ran g c =
    let core = c.into_parts-core.result.0 in
    let gates = map g.G.Gate.tells c.args.gates.now in
    let gates_now = map g.G.Gate.tells c.run_workers-state.new.gates in
    let most : c.worker_count-workers.result ≡ min c.args.core.plan.level (length gates) = c.worker_count-workers.ensures ∙ ap (λ (n : ℕ). min c.args.core.plan.level n) (sym (length-map c.args.gates.now g.G.Gate.tells)) in
    subst (λ (s : StateValue). HasRun (terms_in c.args.jobs.now s.plan) gates gates_now core.plan core.entries) c.open.ensures
    (pooled_run (terms_in c.args.jobs.now c.open.result.plan) c.worker_count-workers.result c.args.core core (g.S.Sink.tells c.args.sink) c.open.result c.run_workers-state.result gates gates_now c.open.ensures c.run_workers-state.ensures.pooled c.into_parts-core.ensures.core most)

pub returns-clause-puts : goal.returns-clause-puts
returns-clause-puts g c =
    pool_puts (terms_in c.args.jobs.now c.open.result.plan) c.worker_count-workers.result c.args.core c.into_parts-core.result.0 (g.S.Sink.tells c.args.sink) c.open.result c.run_workers-state.result
    (map g.G.Gate.tells c.args.gates.now) (map g.G.Gate.tells c.run_workers-state.new.gates) c.open.ensures c.run_workers-state.ensures.pooled c.into_parts-core.ensures.core (g.S.Sink.tells c.into_parts-core.result.1) c.into_parts-core.ensures.sink c.put_of-put.result (c.put_of-put.ensures ∙ ap (λ (h : Option Halt). put_of h) c.halt.ensures.is)

pub returns-clause-ends : goal.returns-clause-ends
returns-clause-ends g c =
    pool_ends (terms_in c.args.jobs.now c.open.result.plan) c.worker_count-workers.result c.args.core c.into_parts-core.result.0 (g.S.Sink.tells c.args.sink) c.open.result c.run_workers-state.result
    (map g.G.Gate.tells c.args.gates.now) (map g.G.Gate.tells c.run_workers-state.new.gates) c.open.ensures c.run_workers-state.ensures.pooled c.into_parts-core.ensures.core (g.S.Sink.tells c.into_parts-core.result.1) c.into_parts-core.ensures.sink c.put_of-put.result (c.put_of-put.ensures ∙ ap (λ (h : Option Halt). put_of h) c.halt.ensures.is)
    c.into_parts-core.ensures.memory

pub returns-clause-halted : goal.returns-clause-halted
returns-clause-halted g c =
    pool_halted (terms_in c.args.jobs.now c.open.result.plan) c.worker_count-workers.result c.args.core c.into_parts-core.result.0 (g.S.Sink.tells c.args.sink) c.open.result c.run_workers-state.result
    (map g.G.Gate.tells c.args.gates.now) (map g.G.Gate.tells c.run_workers-state.new.gates) c.open.ensures c.run_workers-state.ensures.pooled c.into_parts-core.ensures.core (g.S.Sink.tells c.into_parts-core.result.1) c.into_parts-core.ensures.sink c.put_of-put.result (c.put_of-put.ensures ∙ ap (λ (h : Option Halt). put_of h) c.halt.ensures.is)

pub returns-clause-others : goal.returns-clause-others
returns-clause-others g c =
    let planned = ap (λ (k : CoreValue). k.plan) c.into_parts-core.ensures.core ∙ c.run_workers-state.ensures.pooled.plan ∙ ap (λ (s : StateValue). s.plan) c.open.ensures in
    rest_stays c.args.core.plan c.into_parts-core.result.0.plan c.worker_count-workers.result c.args.gates.now c.run_workers-state.new.gates planned
    c.worker_count-workers.ensures c.run_workers-state.ensures.others
