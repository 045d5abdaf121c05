use Rattle.std.proofs.Common.{◌≡◌, false}
use Rattle.std.specs.Io.KnownBytes.{IsAtEnd}
use Rattle.ct_edge.specs.Heard.{Hears}
use Rattle.ct_edge.specs.Transfer.{MovesTo}
use Rattle.ct_edge.proofs.pipe.read_both.Given as goal

abbrev pub invariant-loop : goal.invariant-loop
invariant-loop g l = record {
  heard : Hears (g.O.Read.remaining l.initial.output) (g.O.Read.remaining l.output) (g.E.Ear.stands_for l.initial.ear) (g.E.Ear.stands_for l.ear);
  kept : g.E.Ear.kept l.ear ≡ g.E.Ear.kept l.initial.ear;
  moved : MovesTo (g.P.Read.remaining l.initial.errors) (g.K.Keep.holds l.initial.kept) (g.P.Read.remaining l.errors) (g.K.Keep.holds l.kept);
  output : l.more_output ≡ false → IsAtEnd (g.O.Read.remaining l.output);
  errors : l.more_errors ≡ false → IsAtEnd (g.P.Read.remaining l.errors);
}
