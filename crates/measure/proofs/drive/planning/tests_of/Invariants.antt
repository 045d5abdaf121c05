use Rattle.ct_plan.specs.Source.{HaveProps}
use Rattle.measure.proofs.drive.planning.tests_of.Given as goal

abbrev pub invariant-loop-place : goal.invariant-loop-place
invariant-loop-place l = HaveProps l.tests.defs l.tests.props
