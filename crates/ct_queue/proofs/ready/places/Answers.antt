use Rattle.ct_queue.proofs.ReadyLemmas.{found_more}
use Rattle.ct_queue.proofs.ready.places.Goals as goal

pub loop-place-preserved : goal.loop-place-preserved
loop-place-preserved c =
    found_more c.args.order.now c.loop-place.places c.insert.new.self c.loop-place.place c.requires.once c.loop-place-test.true c.loop-place.invariant c.in_ok-insert.ensures.updates
