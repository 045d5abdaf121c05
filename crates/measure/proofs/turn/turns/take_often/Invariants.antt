use Rattle.std.proofs.Common.{◌≡◌}
use Rattle.measure.proofs.turn.turns.take_often.Given as goal

-- the pass is as it was
abbrev pub invariant-loop : goal.invariant-loop
invariant-loop g l = l.pass ≡ l.fn.pass
