use Rattle.std.proofs.Common.{◌≡◌}
use Rattle.tests_app.proofs.programs.hear_pieces.Given as goal

abbrev pub invariant-loop : goal.invariant-loop
invariant-loop g l = g.E.Ear.kept l.ear ≡ g.E.Ear.kept l.initial.ear
