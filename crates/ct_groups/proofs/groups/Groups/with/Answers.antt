use Rattle.std.proofs.Common.{rules, ◌≡◌, ◌++◌}
use Rattle.ct_groups.specs.GroupsIn.{group_needs}
use Rattle.ct_groups.proofs.NeedLemmas.{needs_more}
use Rattle.ct_groups.proofs.groups.Groups.with.Goals as goal

pub loop-group-preserved : goal.loop-group-preserved
loop-group-preserved c =
    let pushed : c.push_group.new.needs ≡ c.loop-group.needs ++ group_needs c.args.description.now.requirements c.loop-group.group = search rules in
    needs_more c.args.self.count c.loop-group.group c.args.description.now.requirements c.args.self.needs c.loop-group.needs c.push_group.new.needs c.loop-group.auto.group c.loop-group.invariant pushed
