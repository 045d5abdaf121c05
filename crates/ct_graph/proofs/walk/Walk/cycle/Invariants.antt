use Rattle.std.proofs.Common.{◌≡◌, [], reverse}
use Rattle.ct_graph.specs.Walk.{trail_of, back_to}
use Rattle.ct_graph.proofs.walk.Walk.cycle.Given as goal

abbrev pub invariant-loop-step : goal.invariant-loop-step
invariant-loop-step l = back_to l.first (trail_of l.self) (reverse l.tests.items) ≡ back_to l.first (trail_of l.fn.self) []

abbrev pub decreases-loop-step : goal.decreases-loop-step
decreases-loop-step l = goal.left-loop-step l
