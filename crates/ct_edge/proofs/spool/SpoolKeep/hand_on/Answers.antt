use Rattle.std.specs.Prelude.{None}
use Rattle.ct_edge.proofs.HeardLemmas.{hears_more, hears_piece}
use Rattle.ct_edge.proofs.spool.SpoolKeep.hand_on.Goals as goal

pub returns-clause-heard : goal.returns-clause-heard
returns-clause-heard g c =
    hears_more None None None (g.E.Ear.stands_for c.args.ear.now) (g.E.Ear.stands_for c.hear.new.self) (g.E.Ear.stands_for c.hear-2.new.self)
    (hears_piece c.bytes.result.now (g.E.Ear.stands_for c.args.ear.now) (g.E.Ear.stands_for c.hear.new.self) c.hear.ensures.text)
    (hears_more None None None (g.E.Ear.stands_for c.hear.new.self) (g.E.Ear.stands_for c.hand_on_filed.new.ear) (g.E.Ear.stands_for c.hear-2.new.self) c.in_ok-hand_on_filed.ensures.heard
    (hears_piece c.bytes-2.result.now (g.E.Ear.stands_for c.hand_on_filed.new.ear) (g.E.Ear.stands_for c.hear-2.new.self) c.hear-2.ensures.text))
