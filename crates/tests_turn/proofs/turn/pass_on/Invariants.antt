use Rattle.std.proofs.Common.{◌≡◌}
use Rattle.ct_turn.specs.Pass.{idle_pass}
use Rattle.ct_turn.specs.Seen.{has_seen, held_start}
use Rattle.tests_turn.proofs.turn.pass_on.Given as goal

abbrev pub invariant-loop : goal.invariant-loop
invariant-loop g l = (l.pass ≡ idle_pass l.fn.pass.turn (has_seen l.fn.pass.known l.pass.known.seen)) × (held_start l.pass.known ≡ held_start l.fn.pass.known)
