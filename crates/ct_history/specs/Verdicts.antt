-- The verdict that a history gives to a test. Source: CMake manual, ctest(1), --repeat;
-- this project's own for settled tests.
use Rattle.std.specs.Prelude.{ℕ, Bool, true, false, not, ◌&&◌, List, [], ◌∷◌, length, filter_map, Option, Some, None, is_some, if◌then◌else◌}
use Rattle.std.specs.List.{list_all, last_or}
use Rattle.ct_verdict.specs.declared.verdict.Cause.{Cause}
use Rattle.ct_verdict.specs.declared.verdict.Verdict.{Verdict}
use Rattle.ct_verdict.specs.declared.verdict.Verdict.TheVariants.{Passed, NotRun, Disabled}
use Rattle.ct_verdict.specs.declared.repeat.Repeat.{Repeat}
use Rattle.ct_verdict.specs.Verdict.{is_repeated, is_failing_verdict}
use Rattle.ct_history.specs.declared.plan.PlanTest.{PlanTest}
use Rattle.ct_history.specs.declared.plan.PlanParts.{PlanParts}
use Rattle.ct_history.specs.declared.history.Entry.{Entry}
use Rattle.ct_history.specs.Plan.{test_at}
use Rattle.ct_history.specs.History.{settled_by, attempts_of, is_open_in}

-- the first element of a list, if there is one
abbrev pub first_of_list : {A : Type 0} → List A → Option A
first_of_list [] = None
first_of_list (x ∷ xs) = Some x

-- the last element of a list, if there is one
abbrev pub last_of_list : {A : Type 0} → List A → Option A
last_of_list xs = last_or None xs

-- the cause of the first Settle of the test
abbrev pub settled_cause : ℕ → List Entry → Option Cause
settled_cause test entries = first_of_list (filter_map (settled_by test) entries)

-- no further attempt follows these; where there is none yet, one follows
abbrev pub is_over : Repeat → List Verdict → Bool
is_over repeat attempts = not (is_repeated repeat (length attempts) (last_of_list attempts))

-- the verdict of a test that was not settled: that of its last attempt, where none is open and none follows
abbrev pub attempted_verdict : Repeat → PlanTest → List Entry → Option Verdict
attempted_verdict repeat t entries =
    if not (is_open_in t.number entries) && is_over repeat (attempts_of t.number t.rules entries)
    then last_of_list (attempts_of t.number t.rules entries)
    else None

-- NotRun with the cause that the test was settled with, else the verdict of its attempts
abbrev pub settled_or : Option Cause → Option Verdict → Option Verdict
settled_or None attempted = attempted
settled_or (Some cause) attempted = Some (NotRun cause)

-- the verdict of a test: Disabled, else NotRun with the cause that settled it, else that of its attempts
abbrev pub verdict_in : Repeat → PlanTest → List Entry → Option Verdict
verdict_in repeat t entries =
    if t.disabled
    then Some Disabled
    else settled_or (settled_cause t.number entries) (attempted_verdict repeat t entries)

-- a test is final where it has a verdict
abbrev pub is_final_in : Repeat → PlanTest → List Entry → Bool
is_final_in repeat t entries = is_some (verdict_in repeat t entries)

-- each test of the plan is final
abbrev pub are_all_final : PlanParts → List Entry → Bool
are_all_final plan entries = list_all (λ t. is_final_in plan.repeat t entries) plan.tests

-- the verdict of the test that was looked up, if it is there and final
abbrev pub verdict_at : PlanParts → List Entry → Option PlanTest → Option Verdict
verdict_at plan entries None = None
verdict_at plan entries (Some t) = verdict_in plan.repeat t entries

-- the verdict of the test with this number, if it is there and final
abbrev pub verdict_of_test : PlanParts → List Entry → ℕ → Option Verdict
verdict_of_test plan entries number = verdict_at plan entries (test_at plan.tests number)

-- the test passed
abbrev pub is_passed_verdict : Option Verdict → Bool
is_passed_verdict (Some Passed) = true
is_passed_verdict _ = false

-- the verdict is there, and of the failing class
abbrev pub is_failing_in : Option Verdict → Bool
is_failing_in None = false
is_failing_in (Some v) = is_failing_verdict v
