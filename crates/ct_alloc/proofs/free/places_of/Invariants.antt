use Rattle.std.proofs.Common.{◌≡◌, get_or, map, take}
use Rattle.ct_alloc.proofs.free.places_of.Given as goal

abbrev pub invariant-loop-card : goal.invariant-loop-card
invariant-loop-card l = l.places.items ≡ map (λ card. get_or l.cards card 0) (take l.card-index l.found)
