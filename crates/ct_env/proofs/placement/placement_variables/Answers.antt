use Rattle.std.proofs.Common.{rules, ◌≡◌, ◌++◌}
use Rattle.ct_env.specs.PlacementVariables.{group_variables}
use Rattle.ct_env.proofs.FoldLemmas.{group_one_more}
use Rattle.ct_env.proofs.placement.placement_variables.Goals as goal

pub loop-group-preserved : goal.loop-group-preserved
loop-group-preserved c =
    let pushed : c.push_group.new.pairs ≡ c.loop-group.pairs ++ group_variables c.args.picks.now c.loop-group.group = search rules in
    group_one_more (group_variables c.args.picks.now) c.loop-group.group c.push.new.self c.loop-group.pairs c.push_group.new.pairs c.loop-group.invariant pushed
