use Rattle.std.proofs.Common.{◌≡◌, ◌++◌, map, take}
use Rattle.ct_env.specs.PlacementVariables.{kind_variable}
use Rattle.ct_env.proofs.placement.push_kinds.Given as goal

abbrev pub invariant-loop-kind : goal.invariant-loop-kind
invariant-loop-kind l = l.pairs ≡ l.initial.pairs ++ map (kind_variable l.group l.picks) (take l.kind-index l.kinds)
