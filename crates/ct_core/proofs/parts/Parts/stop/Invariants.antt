use Rattle.ct_core.specs.Parts.{IsStoppedTo}
use Rattle.ct_core.proofs.parts.Parts.stop.Given as goal

abbrev pub invariant-loop-place : goal.invariant-loop-place
invariant-loop-place l = IsStoppedTo l.place l.initial.self l.self
