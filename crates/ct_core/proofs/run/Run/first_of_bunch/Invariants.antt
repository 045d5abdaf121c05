use Rattle.std.proofs.Common.{◌≡◌, ◌+◌, ◌-◌, ◌≤◌, get_or, length}
use Rattle.std.specs.Prelude.{Some}
use Rattle.ct_queue.specs.Ready.{IsHead}
use Rattle.ct_core.specs.Bunches.{NoneOfBunch}
use Rattle.ct_core.specs.Run.{history_of_run}
use Rattle.ct_core.proofs.run.Run.first_of_bunch.Given as goal

abbrev pub invariant-loop-head : goal.invariant-loop-head
invariant-loop-head l = record {
  from : l.first ≤ l.place;
  alike : get_or l.self.parts.ready.bunches l.place 0 ≡ get_or l.self.parts.ready.bunches l.first 0;
  head : IsHead l.self.parts.ready l.place;
  none : NoneOfBunch l.self.plan (history_of_run l.self) l.self.parts.ready l.first (Some (l.place + 1));
}

abbrev pub decreases-loop-head : goal.decreases-loop-head
decreases-loop-head l = length l.self.plan.queue - l.place
