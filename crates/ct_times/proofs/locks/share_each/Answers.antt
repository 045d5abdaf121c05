use Rattle.std.proofs.Common.{rules, ◌≡◌, ◌<◌, get_or, length}
use Rattle.ct_times.specs.Locks.{lock_at, shared_with}
use Rattle.ct_times.proofs.LockLemmas.{shared_next}
use Rattle.ct_times.proofs.locks.share_each.Goals as goal

pub loop-name-preserved : goal.loop-name-preserved
loop-name-preserved c = λ lock.
    let names = c.args.names.now in
    let at = c.loop-name.name-index in
    let name = c.bytes-lock.result.now in
    let within : at < length names = search rules in
    let is : name ≡ get_or names at name = search rules in
    let work : c.shared_by-shared.result ≡ shared_with (lock_at c.loop-name.locks name) c.args.test c.args.work = search rules in
    shared_next c.loop-name.locks c.put.new.locks c.args.locks.now names at name c.args.test c.args.work c.shared_by-shared.result within is work c.loop-name.invariant c.in_ok-put.ensures lock
