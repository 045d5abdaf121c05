use Rattle.ct_times.proofs.LockLemmas.{lock_at-updated}
use Rattle.ct_times.proofs.locks.put.Goals as goal

pub returns : goal.returns
returns c = λ lock. lock_at-updated c.args.name c.args.locks.now c.insert.new.self c.args.work c.in_ok-insert.ensures.updates lock
