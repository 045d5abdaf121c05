use Rattle.std.proofs.Common.{◌≡◌, false}
use Rattle.ct_graph.specs.Walk.{Keeps, WalksOn, mark_of, is_unseen, trail_of, steps_left}
use Rattle.ct_graph.proofs.walk.Walk.take_all_before.Given as goal

abbrev pub invariant-loop-step : goal.invariant-loop-step
invariant-loop-step l = Keeps l.rows l.self × WalksOn l.fn.self.marks.items l.self.marks.items × (is_unseen (mark_of l.self.marks.items l.test) ≡ false)

abbrev pub decreases-loop-step : goal.decreases-loop-step
decreases-loop-step l = steps_left l.self.marks.items (trail_of l.self)
