use Rattle.std.proofs.Common.{◌∙◌}
use Rattle.std.specs.Prelude.{None}
use Rattle.ct_edge.proofs.HeardLemmas.{hears_more, hears_piece}
use Rattle.ct_edge.proofs.spool.hear_file.Goals as goal

pub loop-preserved : goal.loop-preserved
loop-preserved g c = record {
  heard = hears_more None None None (g.E.Ear.stands_for c.args.ear.now) (g.E.Ear.stands_for c.loop.ear) (g.E.Ear.stands_for c.hear.new.self) c.loop.invariant.heard
      (hears_piece _ (g.E.Ear.stands_for c.loop.ear) (g.E.Ear.stands_for c.hear.new.self) c.hear.ensures.text);
  kept = c.hear.ensures.kept ∙ c.loop.invariant.kept;
}
