use Rattle.std.proofs.Common.{◌≡◌, ◌++◌, drop, map}
use Rattle.std.specs.Prelude.{filter}
use Rattle.ct_alloc.specs.Spread.{asks_kind}
use Rattle.ct_alloc.proofs.free.of_kind.Given as goal

abbrev pub invariant-loop-need : goal.invariant-loop-need
invariant-loop-need l = map (λ n. n.now) l.mine.items ++ filter (asks_kind l.kind) (map (λ n. n.now) (drop l.need-index l.needs)) ≡ filter (asks_kind l.kind) (map (λ n. n.now) l.needs)
