use Rattle.std.proofs.Common.{◌≡◌, ◌++◌, flat_map}
use Rattle.std.specs.List.{range_with_len}
use Rattle.ct_env.specs.PlacementVariables.{group_variables}
use Rattle.ct_env.proofs.placement.placement_variables.Given as goal

abbrev pub invariant-loop-group : goal.invariant-loop-group
invariant-loop-group l = l.pairs ≡ l.initial.pairs ++ flat_map (group_variables l.picks) (range_with_len 0 l.group)
