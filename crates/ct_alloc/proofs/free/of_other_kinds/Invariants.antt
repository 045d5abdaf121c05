use Rattle.std.proofs.Common.{◌≡◌, ◌++◌, drop, map}
use Rattle.std.specs.Prelude.{filter}
use Rattle.ct_alloc.specs.Spread.{asks_other}
use Rattle.ct_alloc.proofs.free.of_other_kinds.Given as goal

abbrev pub invariant-loop-need : goal.invariant-loop-need
invariant-loop-need l = map (λ n. n.now) l.others.items ++ filter (asks_other l.kind) (map (λ n. n.now) (drop l.need-index l.needs)) ≡ filter (asks_other l.kind) (map (λ n. n.now) l.needs)
