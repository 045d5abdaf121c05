use Rattle.std.specs.Option.{option_copied}
use Rattle.ct_alloc.specs.Lent.{lent}
use Rattle.ct_plan.specs.Linked.{AreLinked}
use Rattle.ct_plan.proofs.planned.plan_tests.Given as goal

abbrev pub invariant-loop-links : goal.invariant-loop-links
invariant-loop-links l = AreLinked (lent (option_copied l.free)) l.level l.defs l.props l.yielded l.tests
