use Rattle.std.proofs.Common.{◌<◌, ◌≤◌, ℕ, get_or, MatchOption}
use Rattle.ct_alloc.proofs.RoomLemmas.{IsRoomiest}
use Rattle.ct_alloc.proofs.pack.roomiest.Given as goal

abbrev pub invariant-loop-card : goal.invariant-loop-card
invariant-loop-card l = MatchOption l.best ((card : ℕ) → card < l.card → l.size ≤ get_or l.free card 0 → l.below ≤ get_or l.free card 0) (λ best. IsRoomiest l.free l.size l.below l.card best)
