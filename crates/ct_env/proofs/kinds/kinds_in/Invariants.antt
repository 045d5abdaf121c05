use Rattle.std.proofs.Common.{◌≡◌, map, filter, drop, ◌==◌}
use Rattle.std.specs.List.{fold}
use Rattle.std.specs.Ordering.{nat_cmp}
use Rattle.std.specs.Cmp.Lexicographic.{slice_cmp}
use Rattle.std.specs.BTreeSet.{insert_key}
use Rattle.ct_alloc.specs.declared.placement.Pick.{Pick}
use Rattle.ct_env.specs.PlacementVariables.{kinds_in}
use Rattle.ct_env.specs.Variables.{names_in}
use Rattle.ct_env.proofs.kinds.kinds_in.Given as goal

abbrev pub invariant-loop-pick : goal.invariant-loop-pick
invariant-loop-pick l = fold (insert_key (slice_cmp nat_cmp)) (names_in l.kinds.keys) (map (λ (pick : Pick). pick.kind) (filter (λ (pick : Pick). pick.group == l.group) (drop l.pick-index l.picks))) ≡ kinds_in l.group l.picks
