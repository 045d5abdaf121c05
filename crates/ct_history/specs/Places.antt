-- The order of the tests of a plan. This project's own.
use Rattle.std.specs.Prelude.{List, map}
use Rattle.ct_history.specs.declared.plan.PlanTest.{PlanTest}
use Rattle.ct_history.specs.Plan.{IsAscendingFrom}

-- the numbers of the tests ascend, so that no two are the same
abbrev pub Ascend : List PlanTest → Type 0
Ascend tests = IsAscendingFrom 1 (map (λ (t : PlanTest). t.number) tests)
