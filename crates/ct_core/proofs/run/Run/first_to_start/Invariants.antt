use Rattle.std.proofs.Common.{◌-◌, length}
use Rattle.ct_core.specs.Run.{history_of_run}
use Rattle.ct_core.proofs.BunchLemmas.{IsLooked}
use Rattle.ct_core.proofs.PickLemmas.{places_to}
use Rattle.ct_core.proofs.run.Run.first_to_start.Given as goal

abbrev pub invariant-loop-first : goal.invariant-loop-first
invariant-loop-first l = IsLooked l.self.plan (history_of_run l.self) l.self.parts.ready l.behind l.best

abbrev pub decreases-loop-first : goal.decreases-loop-first
decreases-loop-first l = length l.self.plan.queue - places_to l.behind
