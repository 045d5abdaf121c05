use Rattle.std.proofs.Common.{◌≡◌, ◌++◌, drop, map}
use Rattle.ct_alloc.specs.Spread.{interleaved}
use Rattle.ct_alloc.proofs.free.interleaved.Given as goal

abbrev pub invariant-loop-need : goal.invariant-loop-need
invariant-loop-need l = l.places.items ++ interleaved l.kind (map (λ n. n.now) (drop l.need-index l.needs)) l.here.rest.now l.rest.rest.now ≡ interleaved l.kind (map (λ n. n.now) l.needs) l.initial.here.rest.now l.initial.rest.rest.now
