use Rattle.std.proofs.Common.{rules, ◌<◌, length, arith}
use Rattle.ct_alloc.proofs.PickLemmas.{taking-more, pick-there}
use Rattle.ct_alloc.proofs.free.subtract.Goals as goal

pub loop-pick-preserved : goal.loop-pick-preserved
loop-pick-preserved c =
    let inside : c.pick-item.result.resource < length c.args.used.now = pick-there (length c.args.used.now) c.args.picks.now c.loop-pick.pick-index c.pick-item.result (search rules) c.pick-item.is c.requires.there in
    taking-more c.loop-pick.used c.args.used.now c.args.picks.now c.loop-pick.pick-index c.pick-item.result (search rules) c.pick-item.is (omega (arith, c.loop-pick.invariant.count)) c.requires.used c.loop-pick.invariant
