use Rattle.std.proofs.Common.{◌≡◌, ◌++◌, ◌-◌}
use Rattle.ct_groups.specs.GroupsIn.{needs_from}
use Rattle.ct_groups.proofs.groups.Groups.with.Given as goal

abbrev pub invariant-loop-group : goal.invariant-loop-group
invariant-loop-group l = l.needs ≡ l.initial.needs ++ needs_from l.count (l.group - l.count) l.description.requirements
