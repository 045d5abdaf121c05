use Rattle.std.proofs.Common.{rules, ◌≡◌, ◌<◌, get_or, length}
use Rattle.ct_times.specs.Locks.{lock_at, held_with}
use Rattle.ct_times.proofs.LockLemmas.{held_next}
use Rattle.ct_times.proofs.locks.hold_each.Goals as goal

pub loop-name-preserved : goal.loop-name-preserved
loop-name-preserved c = λ lock.
    let names = c.args.names.now in
    let at = c.loop-name.name-index in
    let name = c.bytes-lock.result.now in
    let within : at < length names = search rules in
    let is : name ≡ get_or names at name = search rules in
    let work : c.held_by-held.result ≡ held_with (lock_at c.loop-name.locks name) c.args.test c.args.work = search rules in
    held_next c.loop-name.locks c.put.new.locks c.args.locks.now names at name c.args.test c.args.work c.held_by-held.result within is work c.loop-name.invariant c.in_ok-put.ensures lock
