use Rattle.measure.specs.Held.{HoldsOpen}
use Rattle.measure.proofs.drive.run.Run.go.Given as goal

abbrev pub invariant-loop : goal.invariant-loop
invariant-loop l = HoldsOpen l.self
