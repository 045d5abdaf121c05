use Rattle.ct_app.proofs.PoolLemmas.{run_puts, run_stops}
use Rattle.ct_app.proofs.run.run_tests.Goals as goal

pub returns-clause-puts : goal.returns-clause-puts
returns-clause-puts g c =
    let pool = c.run_pool-core in
    let core = pool.result.core in
    run_puts core.plan core.entries (g.S.Sink.tells c.args.sink) (g.S.Sink.tells pool.result.sink) (g.S.Sink.tells c.put_behind-ended.new.sink)
    pool.result.put c.put_behind-ended.result pool.ensures.puts pool.ensures.ends c.put_behind-ended.ensures

pub returns-clause-stops : goal.returns-clause-stops
returns-clause-stops g c =
    let pool = c.run_pool-core in
    let core = pool.result.core in
    run_stops core.plan core.entries (g.S.Sink.tells c.args.sink) (g.S.Sink.tells pool.result.sink) (g.S.Sink.tells c.put_behind-ended.new.sink)
    pool.result.put c.put_behind-ended.result pool.ensures.puts pool.ensures.ends pool.ensures.halted c.put_behind-ended.ensures
