use Rattle.std.proofs.Common.{◌≡◌, List, drop}
use Rattle.ct_regex.specs.Walk.{Step}
use Rattle.ct_regex.specs.Stand.{behind_bytes}
use Rattle.ct_regex.specs.Memory.{stand_at, Remembers}
use Rattle.ct_regex.proofs.memory.Memory.stays.Given as goal

abbrev pub invariant-loop-i : goal.invariant-loop-i
invariant-loop-i l = (steps : List Step) → Remembers steps l.self →
    behind_bytes steps (stand_at l.self l.at) (drop l.i l.piece) ≡ behind_bytes steps (stand_at l.self l.at) l.piece
