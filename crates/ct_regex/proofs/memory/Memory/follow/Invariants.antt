use Rattle.std.proofs.Common.{◌≡◌, ◌≤◌, ◌<◌, ◌-◌, List, drop, length}
use Rattle.ct_regex.specs.Walk.{Step}
use Rattle.ct_regex.specs.Stand.{behind_bytes}
use Rattle.ct_regex.specs.Memory.{stand_at, Remembers}
use Rattle.ct_regex.proofs.memory.Memory.follow.Given as goal

abbrev pub invariant-bytes : goal.invariant-bytes
invariant-bytes l = record {
  within : l.known ≤ length l.piece;
  behind : (steps : List Step) → Remembers steps l.self → behind_bytes steps (stand_at l.self l.at) (drop l.known l.piece) ≡ behind_bytes steps (stand_at l.self l.from) l.piece;
  met : (steps : List Step) → Remembers steps l.self → l.at < l.self.count;
}

abbrev pub decreases-bytes : goal.decreases-bytes
decreases-bytes l = length l.piece - l.known
