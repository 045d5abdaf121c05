use Rattle.std.proofs.Common.{◌≡◌, drop}
use Rattle.std.specs.List.{list_any}
use Rattle.ct_alloc.proofs.ByKindLemmas.{has_slots}
use Rattle.ct_alloc.proofs.free.Free.first_with_room.Given as goal

abbrev pub invariant-loop-place : goal.invariant-loop-place
invariant-loop-place l = list_any (has_slots l.self l.need) (drop l.place-index l.cards) ≡ list_any (has_slots l.self l.need) l.cards
