-- The tests that failed. Source: this project's choice, after what ctest does.
use Rattle.std.specs.Prelude.{List, filter}
use Rattle.ct_history.specs.declared.plan.PlanTest.{PlanTest}
use Rattle.ct_history.specs.declared.plan.PlanParts.{PlanParts}
use Rattle.ct_history.specs.declared.history.Entry.{Entry}
use Rattle.ct_history.specs.Verdicts.{verdict_in, is_failing_in}

-- the tests of the failing class, in order of number
abbrev pub failed_tests : PlanParts → List Entry → List PlanTest
failed_tests plan entries =
    filter (λ (t : PlanTest). is_failing_in (verdict_in plan.repeat t entries)) plan.tests
