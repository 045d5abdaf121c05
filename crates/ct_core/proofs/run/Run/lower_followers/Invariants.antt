use Rattle.std.proofs.Common.{◌≡◌, drop}
use Rattle.ct_core.specs.Parts.{AreQueued, IsLowered, followers_at}
use Rattle.ct_core.specs.Run.{history_of_run}
use Rattle.ct_core.proofs.run.Run.lower_followers.Given as goal

abbrev pub invariant-loop-at : goal.invariant-loop-at
invariant-loop-at l = record {
  plan : l.self.plan ≡ l.initial.self.plan;
  history : l.self.history ≡ l.initial.self.history;
  lowered : IsLowered l.initial.self.parts l.self.parts;
  queued : AreQueued l.initial.self.plan (history_of_run l.initial.self) (drop l.at (followers_at l.initial.self.parts l.place)) l.self.parts;
}
