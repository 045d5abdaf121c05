use Rattle.std.proofs.Common.{refl}
use Rattle.ct_explain.proofs.ReadingLemmas.{reads_none}
use Rattle.ct_explain.proofs.reading.read_run.Goals as goal

pub returns-in-None : goal.returns-in-None
returns-in-None c = reads_none c.args.plan.now c.args.text.now (c.in-None.ensures.none refl)
