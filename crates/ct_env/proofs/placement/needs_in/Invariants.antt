use Rattle.std.proofs.Common.{◌≡◌, ◌++◌, drop}
use Rattle.ct_env.specs.PlacementVariables.{needs_in}
use Rattle.ct_env.proofs.placement.needs_in.Given as goal

abbrev pub invariant-loop-pick : goal.invariant-loop-pick
invariant-loop-pick l = l.needs ++ needs_in l.group (drop l.pick-index l.picks) l.kind ≡ needs_in l.group l.picks l.kind
