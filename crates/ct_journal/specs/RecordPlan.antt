-- When two plans differ in the order of their starts alone, which no legal history depends on. This project's
-- own.
use Rattle.std.specs.Prelude.{[], map}
use Rattle.ct_history.specs.declared.plan.PlanTest.{PlanTest}
use Rattle.ct_history.specs.declared.plan.PlanParts.{PlanParts}

-- a test of a plan without its rank
abbrev pub without_rank : PlanTest → PlanTest
without_rank t = record t { rank = 0 }

-- a plan without its queue and without the ranks of its tests
abbrev pub without_order : PlanParts → PlanParts
without_order plan = record plan { tests = map without_rank plan.tests; queue = [] }
