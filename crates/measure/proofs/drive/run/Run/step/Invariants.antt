use Rattle.measure.specs.Held.{HoldsOpen}
use Rattle.measure.proofs.drive.run.Run.step.Given as goal

abbrev pub invariant-loop-worker : goal.invariant-loop-worker
invariant-loop-worker l = HoldsOpen l.self
