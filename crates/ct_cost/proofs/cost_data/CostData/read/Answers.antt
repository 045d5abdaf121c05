use Rattle.std.proofs.Common.{sym, subst}
use Rattle.ct_cost.specs.CostLine.{AreCosts}
use Rattle.ct_cost.specs.Text.{lines_in}
use Rattle.ct_cost.proofs.ReadingLemmas.{costs_read}
use Rattle.ct_cost.proofs.SoundLemmas.{sound-in}
use Rattle.ct_cost.proofs.cost_data.CostData.read.Goals as goal

pub returns-clause-is : goal.returns-clause-is
returns-clause-is c = costs_read (lines_in c.args.text.now) c.in_ok-reading.reading c.in_ok-reading.ensures

pub returns-clause-sound : goal.returns-clause-sound
returns-clause-sound c =
    subst AreCosts (sym (costs_read (lines_in c.args.text.now) c.in_ok-reading.reading c.in_ok-reading.ensures)) (sound-in c.args.text.now)

pub invariant_of-result : goal.invariant_of-result
invariant_of-result c =
    subst AreCosts (sym (costs_read (lines_in c.args.text.now) c.in_ok-reading.reading c.in_ok-reading.ensures)) (sound-in c.args.text.now)
