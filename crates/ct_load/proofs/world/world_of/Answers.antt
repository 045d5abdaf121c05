use Rattle.std.proofs.Common.{rules, ◌≡◌, ◌+◌, ◌++◌, [], ◌∷◌}
use Rattle.ct_load.specs.World.{load_told}
use Rattle.ct_load.proofs.ListLemmas.{one_item_more}
use Rattle.ct_load.proofs.world.world_of.Goals as goal

pub loop-before-preserved : goal.loop-before-preserved
loop-before-preserved c =
    let world = c.push.new.self in
    let more : world ≡ c.loop-before.world ++ load_told (c.loop-before.before + 1) ∷ [] = search rules in
    one_item_more load_told c.loop-before.before c.loop-before.world world c.loop-before.invariant more
