use Rattle.ct_core.proofs.BunchLemmas.{AreBunchesTo}
use Rattle.ct_core.proofs.bunches.list_bunches.Given as goal

abbrev pub invariant-loop-place : goal.invariant-loop-place
invariant-loop-place l = AreBunchesTo l.plan l.keys l.bunches l.place
