use Rattle.std.proofs.Common.{◌-◌, refl}
use Rattle.ct_queue.proofs.ReadyLemmas.{lowered_by}
use Rattle.ct_queue.proofs.ready.Ready.lower.Goals as goal

pub returns : goal.returns
returns c =
    lowered_by c.args.self.now c.put.new.self c.args.test c.place-place.result c.standing-standing.result (record { count = c.standing-standing.result.count - 1; is_out = c.standing-standing.result.is_out }) c.place-place.ensures c.standing-standing.ensures refl refl c.put.ensures
