use Rattle.std.proofs.Common.{◌≡◌, ◌+◌, map, take}
use Rattle.ct_plan.proofs.whole.raised.Given as goal

abbrev pub invariant-loop-number : goal.invariant-loop-number
invariant-loop-number l = l.raised ≡ map (λ n. n + l.offset) (take l.number-index l.numbers)
