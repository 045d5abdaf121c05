use Rattle.std.proofs.Common.{◌≡◌}
use Rattle.std.specs.Prelude.{None}
use Rattle.ct_edge.specs.Heard.{Hears}
use Rattle.ct_edge.proofs.spool.hear_file.Given as goal

abbrev pub invariant-loop : goal.invariant-loop
invariant-loop g l = record {
  heard : Hears None None (g.E.Ear.stands_for l.initial.ear) (g.E.Ear.stands_for l.ear);
  kept : g.E.Ear.kept l.ear ≡ g.E.Ear.kept l.initial.ear;
}
