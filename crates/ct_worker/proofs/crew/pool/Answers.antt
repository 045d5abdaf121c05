use Rattle.std.proofs.Common.{◌≡◌, ◌∙◌, sym, subst, List, length, drop, ◌++◌, map}
use Rattle.std.proofs.Math.ListN.{take}
use Rattle.ct_worker.specs.Pool.{IsPooled}
use Rattle.ct_worker.specs.Work.{terms_in}
use Rattle.ct_worker.proofs.PartLemmas.{front_of}
use Rattle.ct_worker.proofs.PoolLemmas.{asked_in_order}
use Rattle.ct_worker.proofs.crew.pool.Goals as goal

pub returns-clause-pooled : goal.returns-clause-pooled
returns-clause-pooled g c =
    let gates = c.args.gates in
    let lent = c.as_mut_slice.ensures in
    let run = c.run_workers-state in
    let now = run.new.gates in
    let back : take gates.len (now ++ drop (length now) gates.items) ≡ now = front_of gates.len now (drop (length now) gates.items) (run.auto.gates ∙ lent.len) in
    subst (λ (gs : List _). IsPooled (terms_in c.args.jobs.now c.args.state.plan) c.args.workers c.args.state run.result (map g.G.Gate.tells gates.items) (map g.G.Gate.tells gs)) (sym back)
    (subst (λ (gs : List _). IsPooled (terms_in c.args.jobs.now c.args.state.plan) c.args.workers c.args.state run.result (map g.G.Gate.tells gs) (map g.G.Gate.tells now)) lent.value run.ensures.pooled)

pub returns-clause-all : goal.returns-clause-all
returns-clause-all g c = asked_in_order (terms_in c.args.jobs.now c.args.state.plan) 0 _ _ _ (returns-clause-pooled g c).asked
