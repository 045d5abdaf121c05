use Rattle.std.proofs.Common.{false, refl}
use Rattle.ct_queue.proofs.ReadyLemmas.{with_out_by}
use Rattle.ct_queue.proofs.ready.Ready.back.Goals as goal

pub returns : goal.returns
returns c =
    with_out_by c.args.self.now c.put.new.self c.args.test c.place-place.result c.standing-standing.result (record { count = c.standing-standing.result.count; is_out = false }) false c.place-place.ensures c.standing-standing.ensures refl refl c.put.ensures
