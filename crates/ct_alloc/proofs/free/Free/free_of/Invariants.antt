use Rattle.std.proofs.Common.{◌≡◌, map, take}
use Rattle.ct_alloc.specs.Free.{free_at}
use Rattle.ct_alloc.proofs.free.Free.free_of.Given as goal

abbrev pub invariant-loop-place : goal.invariant-loop-place
invariant-loop-place l = l.free.items ≡ map (λ place. free_at l.self place) (take l.place-index l.places)
