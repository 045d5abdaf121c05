use Rattle.std.proofs.Common.{◌≡◌, take, map, Some}
use Rattle.ct_plan.specs.Linked.{standing_in}
use Rattle.ct_plan.proofs.queue.standings.Given as goal

abbrev pub invariant-loop-number : goal.invariant-loop-number
invariant-loop-number l = map Some l.standings.items ≡ map (standing_in l.defs l.props l.costs) (take l.number-index l.numbers)
