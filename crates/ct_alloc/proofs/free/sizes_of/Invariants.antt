use Rattle.std.proofs.Common.{◌≡◌, map, take}
use Rattle.ct_alloc.specs.Spread.{sizes_of}
use Rattle.ct_alloc.proofs.free.sizes_of.Given as goal

abbrev pub invariant-loop-need : goal.invariant-loop-need
invariant-loop-need l = l.sizes.items ≡ sizes_of (map (λ n. n.now) (take l.need-index l.needs))
