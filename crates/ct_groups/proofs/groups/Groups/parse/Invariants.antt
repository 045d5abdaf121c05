use Rattle.std.proofs.Common.{◌≡◌, drop}
use Rattle.ct_groups.specs.GroupsIn.{with_descriptions, groups_in}
use Rattle.ct_groups.proofs.groups.Groups.parse.Given as goal

abbrev pub invariant-loop-text : goal.invariant-loop-text
invariant-loop-text l = with_descriptions l.groups (drop l.text-index l.text-items) ≡ groups_in l.fn.text
