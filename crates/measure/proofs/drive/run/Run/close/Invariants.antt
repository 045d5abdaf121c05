use Rattle.std.specs.Prelude.{length}
use Rattle.measure.specs.Held.{HoldsOpen}
use Rattle.measure.proofs.drive.run.Run.close.Given as goal

abbrev pub invariant-loop-self : goal.invariant-loop-self
invariant-loop-self l = HoldsOpen l.self

abbrev pub decreases-loop-self : goal.decreases-loop-self
decreases-loop-self l = length l.self.tickets.items
