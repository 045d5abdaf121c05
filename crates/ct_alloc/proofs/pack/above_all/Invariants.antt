use Rattle.std.proofs.Common.{◌<◌, ℕ, get_or}
use Rattle.ct_alloc.proofs.pack.above_all.Given as goal

abbrev pub invariant-loop-room : goal.invariant-loop-room
invariant-loop-room l = (0 < l.above) × ((card : ℕ) → card < l.room-index → get_or l.free card 0 < l.above)
