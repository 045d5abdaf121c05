use Rattle.std.proofs.Common.{◌≡◌, ◌+◌, length}
use Rattle.std.specs.Prelude.{vec_len}
use Rattle.measure.specs.Race.{HasJoined, IsFresh}
use Rattle.measure.proofs.turn.turns.join_all.Given as goal

-- each pass so far was joined, and its time was added
abbrev pub invariant-loop-pass : goal.invariant-loop-pass
invariant-loop-pass l = HasJoined l.fn.first (length l.yielded) l.first × IsFresh l.turn l.first × (vec_len l.times ≡ vec_len l.fn.times + length l.yielded)
