use Rattle.std.proofs.Common.{◌≡◌, ◌++◌, map, take, Some}
use Rattle.ct_plan.specs.Whole.{standing_behind}
use Rattle.ct_plan.proofs.whole.add_standings.Given as goal

abbrev pub invariant-loop-number : goal.invariant-loop-number
invariant-loop-number l =
    map Some l.standings.items ≡ map Some l.initial.standings.items ++ map (standing_behind l.offset l.tree.defs l.tree.props l.tree.costs) (take l.number-index l.numbers)
