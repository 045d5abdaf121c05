-- What a run begins with: the state of each test, how many predecessors it waits for, and
-- whether it can't run at all. Source: CMake manual, cmake-properties(7), DEPENDS, DISABLED,
-- FIXTURES_REQUIRED; ctest(1), Resource Allocation. The words are this project's own.
use Rattle.std.specs.Prelude.{ℕ, Bool, false, not, ◌&&◌, ◌==◌, List, length, map, Option, Some, None, is_some, if◌then◌else◌}
use Rattle.ct_verdict.specs.declared.verdict.Verdict.TheVariants.{Disabled}
use Rattle.ct_history.specs.declared.plan.PlanTest.{PlanTest}
use Rattle.ct_history.specs.declared.plan.PlanParts.{PlanParts}
use Rattle.ct_history.specs.Plan.{test_at}
use Rattle.ct_core.specs.declared.state.State.{State}
use Rattle.ct_core.specs.declared.state.State.TheVariants.{Pending, Final}

-- the state of a test before the first entry
abbrev pub first_state : PlanTest → State
first_state t = if t.disabled then Final Disabled else Pending 0

-- how many predecessors the test that was looked up has; 0 if there is no test
abbrev pub count_before : Option PlanTest → ℕ
count_before None = 0
count_before (Some t) = length t.before

-- how many predecessors each test of the queue has, in its order
abbrev pub first_counts : PlanParts → List ℕ
first_counts plan = map (λ (n : ℕ). count_before (test_at plan.tests n)) plan.queue

-- the test that was looked up is there and may be settled before any
-- entry: it is not disabled, has no predecessor, and has a fixed cause
abbrev pub settles_first : Option PlanTest → Bool
settles_first None = false
settles_first (Some t) = not t.disabled && length t.before == 0 && is_some t.fixed
