use Rattle.std.proofs.Common.{ap, map}
use Rattle.ct_core.specs.CoreValue.{CoreValue}
use Rattle.ct_worker.specs.Work.{terms_in}
use Rattle.ct_app.proofs.EndLemmas.{unrun}
use Rattle.ct_trees.proofs.TreeRunLemmas.{headers_cut, trees_stop}
use Rattle.ct_trees.proofs.run.run_trees.Goals as goal

pub returns-in-Err-clause-ran : goal.returns-in-Err-clause-ran
returns-in-Err-clause-ran g c = unrun (terms_in c.args.jobs.now c.args.core.plan) (map g.G.Gate.tells c.args.gates.now) c.args.core.plan c.args.core.entries (ap (λ (k : CoreValue). k.entries) c.requires.fresh)

pub returns-in-Err-clause-puts : goal.returns-in-Err-clause-puts
returns-in-Err-clause-puts g c = headers_cut c.args.trees.now c.args.core.plan c.args.core.entries (g.S.Sink.tells c.args.sink) (g.S.Sink.tells c.put_headers.new.sink) c.in-Err.fault c.in-Err.ensures

pub returns-clause-stops : goal.returns-clause-stops
returns-clause-stops g c =
    let pool = c.run_pool-core in
    let core = pool.result.core in
    trees_stop c.args.trees.now core.plan core.entries (g.S.Sink.tells c.args.sink) (g.S.Sink.tells c.put_headers.new.sink) (g.S.Sink.tells pool.result.sink) (g.S.Sink.tells c.put_behind-put.new.sink) c.in_default.ensures
    pool.result.put c.put_behind-put.result pool.ensures.puts pool.ensures.ends pool.ensures.halted c.put_behind-put.ensures
