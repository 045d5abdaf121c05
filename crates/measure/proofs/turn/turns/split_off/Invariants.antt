use Rattle.std.proofs.Common.{◌≡◌}
use Rattle.std.specs.Prelude.{All, vec_len}
use Rattle.measure.specs.Race.{IsFresh, with_made}
use Rattle.measure.proofs.turn.turns.split_off.Given as goal

-- the passes made so far are fresh, and the one of worker 0 knows how many they are
abbrev pub invariant-loop : goal.invariant-loop
invariant-loop l = (vec_len l.passes ≡ l.counter) × All (IsFresh l.turn) l.passes.items × (l.first ≡ with_made l.fn.first l.counter)
