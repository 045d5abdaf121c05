-- What a run says of its tests for the next one, and the log of its failed tests. Source: this project's
-- choice, after what ctest does.
use Rattle.std.specs.Prelude.{ℕ, min, List, ◌++◌, filter, flat_map, codes, decimal, Option, Some, None}
use Rattle.ct_base.specs.Seconds.{most_micros}
use Rattle.ct_verdict.specs.declared.attempt.Seen.{Seen}
use Rattle.ct_history.specs.declared.plan.PlanTest.{PlanTest}
use Rattle.ct_history.specs.declared.plan.PlanParts.{PlanParts}
use Rattle.ct_history.specs.declared.history.Entry.{Entry}
use Rattle.ct_history.specs.Endings.{last_seen}
use Rattle.ct_history.specs.Verdicts.{verdict_in, is_passed_verdict}
use Rattle.ct_history.specs.Failed.{failed_tests}
use Rattle.ct_cost.specs.CostLine.{CostLine, after_run}

-- the microseconds that an attempt counts for, at most `most_micros`
abbrev pub counted_micros : Option Seen → ℕ
counted_micros None = 0
counted_micros (Some seen) = min seen.micros most_micros

-- the tests that passed, in order of number
abbrev pub passed_tests : PlanParts → List Entry → List PlanTest
passed_tests plan entries =
    filter (λ (t : PlanTest). is_passed_verdict (verdict_in plan.repeat t entries)) plan.tests

-- the lines after one more test that passed: its name has one more run, the test's last attempt
abbrev pub after_test : List Entry → List CostLine → PlanTest → List CostLine
after_test entries lines t = after_run lines t.name (counted_micros (last_seen t.number entries))

-- the line of a test in the log
abbrev pub logged : PlanTest → List ℕ
logged t = decimal t.number ++ codes ":" ++ t.name ++ codes "\n"

-- the log of the failed tests
abbrev pub failed_log_text : PlanParts → List Entry → List ℕ
failed_log_text plan entries = flat_map logged (failed_tests plan entries)
