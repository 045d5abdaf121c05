use Rattle.std.proofs.Common.{◌≡◌, take, map}
use Rattle.ct_plan.specs.declared.standing.Standing.{Standing}
use Rattle.ct_plan.proofs.queue.numbers_of.Given as goal

abbrev pub invariant-loop-standing : goal.invariant-loop-standing
invariant-loop-standing l = l.numbers ≡ map (λ (s : Standing). s.number) (take l.standing-index l.standings)
