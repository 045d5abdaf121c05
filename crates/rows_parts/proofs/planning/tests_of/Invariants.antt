use Rattle.ct_plan.specs.Source.{HaveProps}
use Rattle.rows_parts.proofs.planning.tests_of.Given as goal

abbrev pub invariant-loop-row : goal.invariant-loop-row
invariant-loop-row l = HaveProps l.tests.defs l.tests.props
