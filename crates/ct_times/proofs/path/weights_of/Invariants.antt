use Rattle.ct_times.specs.Bounds.{done_by}
use Rattle.ct_times.specs.Works.{kept_at}
use Rattle.ct_times.proofs.WeightLemmas.{AreWeighed}
use Rattle.ct_times.proofs.path.weights_of.Given as goal

abbrev pub invariant-loop-test : goal.invariant-loop-test
invariant-loop-test l = AreWeighed l.plan.level (done_by l.works) (kept_at l.weights) l.test-items l.test-index
