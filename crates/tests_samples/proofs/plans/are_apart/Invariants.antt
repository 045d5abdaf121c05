use Rattle.std.proofs.Common.{take}
use Rattle.ct_base.specs.Resources.{AreDistinct}
use Rattle.tests_samples.proofs.plans.are_apart.Given as goal

abbrev pub invariant-loop-at : goal.invariant-loop-at
invariant-loop-at l = AreDistinct (take l.at l.resources)
