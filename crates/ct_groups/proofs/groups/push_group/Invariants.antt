use Rattle.std.proofs.Common.{◌≡◌, ◌++◌, map, take}
use Rattle.ct_groups.specs.GroupsIn.{need_for}
use Rattle.ct_groups.proofs.groups.push_group.Given as goal

abbrev pub invariant-loop-requirement : goal.invariant-loop-requirement
invariant-loop-requirement l = l.needs ≡ l.initial.needs ++ map (need_for l.group) (take l.requirement-index l.requirements)
