use Rattle.std.proofs.Common.{◌∙◌}
use Rattle.ct_core.proofs.FollowerLemmas.{none-more}
use Rattle.ct_core.proofs.followers.none_each.Goals as goal

pub loop-at-preserved : goal.loop-at-preserved
loop-at-preserved c =
    none-more c.args.tests.now c.loop-at.at c.loop-at.followers.items c.push.new.self.items c.from_vec.result c.loop-at-test.true c.loop-at.invariant (c.from_vec.ensures ∙ c.in_ok-room.ensures.items) c.in_ok-push.ensures.items
