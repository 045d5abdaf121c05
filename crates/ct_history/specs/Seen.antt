-- The rules of a run, by the open starts and how each test has fared. Each is equal to the rule over the
-- list of entries. This project's own.
use Rattle.std.specs.Prelude.{ℕ, ◌+◌, min, Bool, true, false, not, ◌&&◌, List, find, sum_by, nat_le, Option, Some, None, option_map, is_some, is_none, ◌==◌, if◌then◌else◌}
use Rattle.std.specs.List.{list_any, list_all}
use Rattle.ct_alloc.specs.declared.placement.Placement.{Placement}
use Rattle.ct_verdict.specs.declared.verdict.Cause.{Cause}
use Rattle.ct_verdict.specs.declared.verdict.Cause.TheVariants.{Stopped}
use Rattle.ct_verdict.specs.declared.verdict.Verdict.{Verdict}
use Rattle.ct_verdict.specs.declared.verdict.Verdict.TheVariants.{Disabled}
use Rattle.ct_verdict.specs.declared.rules.Rules.{Rules}
use Rattle.ct_verdict.specs.declared.repeat.Repeat.{Repeat}
use Rattle.ct_verdict.specs.Verdict.{is_repeated, verdict_of}
use Rattle.ct_history.specs.declared.plan.PlanTest.{PlanTest}
use Rattle.ct_history.specs.declared.plan.PlanParts.{PlanParts}
use Rattle.ct_history.specs.declared.history.Entry.{Entry}
use Rattle.ct_history.specs.declared.history.Entry.TheVariants.{Start, End, Settle, Stop}
use Rattle.ct_history.specs.History.{Running, placed_slots, processors_of, test_at}
use Rattle.ct_history.specs.Verdicts.{is_failing_in, is_passed_verdict, settled_or}
use Rattle.ct_history.specs.Rules.{cause_behind, exclude, is_placed}
use Rattle.ct_history.specs.Legal.{same_cause}
use Rattle.ct_history.specs.declared.course.Course.{Course}
use Rattle.ct_history.specs.declared.course.Ended.{Ended}
use Rattle.ct_history.specs.Course.{most_attempts_seen}

-- one of these starts is of the test
abbrev pub opens : ℕ → List Running → Bool
opens test starts = list_any (λ (r : Running). r.test == test) starts

-- the worker made one of these starts
abbrev pub is_busy_with : ℕ → List Running → Bool
is_busy_with worker starts = list_any (λ (r : Running). r.worker == worker) starts

-- the worker made this attempt of the test
abbrev pub has_start : ℕ → ℕ → ℕ → List Running → Bool
has_start test attempt worker starts =
    list_any (λ (r : Running). r.test == test && r.attempt == attempt && r.worker == worker) starts

-- the processors that these starts use together
abbrev pub processors_used : List PlanTest → List Running → ℕ
processors_used tests starts = sum_by (λ (r : Running). processors_of (test_at tests r.test)) starts

-- the slots of the resource at a place that these starts use together
abbrev pub slots_used : List Running → ℕ → ℕ
slots_used starts place = sum_by (λ (r : Running). placed_slots place r.placement) starts

-- the test and one of these starts exclude each other
abbrev pub is_excluded_by : List PlanTest → PlanTest → List Running → Bool
is_excluded_by tests t starts = list_any (λ (r : Running). exclude (Some t) (test_at tests r.test)) starts

-- the verdict of the last attempt that has ended, where the test is not open and no further attempt follows
abbrev pub attempted_by : Repeat → Rules → Bool → Option Ended → Option Verdict
attempted_by repeat rules is_open None = None
attempted_by repeat rules is_open (Some e) =
    if not is_open
    && not (is_repeated repeat (min (e.earlier + 1) most_attempts_seen) (Some (verdict_of rules e.last)))
    then Some (verdict_of rules e.last)
    else None

-- the verdict of a test, by how it has fared
abbrev pub verdict_of_course : Repeat → PlanTest → Bool → Course → Option Verdict
verdict_of_course repeat t is_open course =
    if t.disabled
    then Some Disabled
    else settled_or course.settled (attempted_by repeat t.rules is_open course.ended)

-- the verdict of a test, by the open starts and how each test has fared
abbrev pub verdict_in_course : Repeat → List Running → (ℕ → Course) → PlanTest → Option Verdict
verdict_in_course repeat starts courses t =
    verdict_of_course repeat t (opens t.number starts) (courses t.number)

-- the verdict, by the open starts and the courses, of the test that was looked up, if it was found
abbrev pub verdict_by_lookup : Repeat → List Running → (ℕ → Course) → Option PlanTest → Option Verdict
verdict_by_lookup repeat starts courses None = None
verdict_by_lookup repeat starts courses (Some t) = verdict_in_course repeat starts courses t

-- the verdict, by the open starts and the courses, of the test with this number, if there is one
abbrev pub verdict_by_number : PlanParts → List Running → (ℕ → Course) → ℕ → Option Verdict
verdict_by_number plan starts courses number =
    verdict_by_lookup plan.repeat starts courses (test_at plan.tests number)

-- each predecessor of the test is final
abbrev pub follows_by : PlanParts → List Running → (ℕ → Course) → PlanTest → Bool
follows_by plan starts courses t = list_all (λ j. is_some (verdict_by_number plan starts courses j)) t.before

-- the first setup of the test that has not passed
abbrev pub unpassed_by : PlanParts → List Running → (ℕ → Course) → PlanTest → Option ℕ
unpassed_by plan starts courses t =
    find (λ s. not (is_passed_verdict (verdict_by_number plan starts courses s))) t.setups

-- the test is neither final nor open
abbrev pub is_pending_by : PlanParts → List Running → (ℕ → Course) → PlanTest → Bool
is_pending_by plan starts courses t =
    not (is_some (verdict_in_course plan.repeat starts courses t)) && not (opens t.number starts)

-- the predecessors are final, the setups have passed, and the test has no fixed cause
abbrev pub is_ready_by : PlanParts → List Running → (ℕ → Course) → PlanTest → Bool
is_ready_by plan starts courses t =
    follows_by plan starts courses t && is_none (unpassed_by plan starts courses t) && is_none t.fixed

-- the processors suffice for the test, and no open test excludes it
abbrev pub has_room_by : PlanParts → List Running → PlanTest → Bool
has_room_by plan starts t =
    nat_le (t.processors + processors_used plan.tests starts) plan.level
    && not (is_excluded_by plan.tests t starts)

-- the test may start with this placement
abbrev pub may_start_by : PlanParts → List Running → (ℕ → Course) → Bool → Option Placement → PlanTest → Bool
may_start_by plan starts courses stopped placement t =
    not stopped
    && is_pending_by plan starts courses t
    && is_ready_by plan starts courses t
    && has_room_by plan starts t
    && is_placed plan.resources t.needs (slots_used starts) placement

-- the number of the next attempt
abbrev pub next_attempt : Option Ended → ℕ
next_attempt None = 1
next_attempt (Some e) = e.earlier + 2

-- the test that was looked up is there, and may start with this placement as this attempt
abbrev pub starts_by : PlanParts
    → List Running → (ℕ → Course) → Bool → ℕ → Option Placement → Option PlanTest → Bool
starts_by plan starts courses stopped attempt placement None = false
starts_by plan starts courses stopped attempt placement (Some t) =
    may_start_by plan starts courses stopped placement t && attempt == next_attempt (courses t.number).ended

-- the cause that the test may be settled with, if there is one
abbrev pub cause_by : PlanParts → List Running → (ℕ → Course) → Bool → PlanTest → Option Cause
cause_by plan starts courses stopped t =
    if not (is_pending_by plan starts courses t)
    then None
    else (if stopped
    then Some Stopped
    else (if follows_by plan starts courses t
    then cause_behind (unpassed_by plan starts courses t) t.fixed
    else None))

-- the test that was looked up is there, and may be settled with this cause
abbrev pub settles_by : PlanParts → List Running → (ℕ → Course) → Bool → Cause → Option PlanTest → Bool
settles_by plan starts courses stopped cause None = false
settles_by plan starts courses stopped cause (Some t) =
    same_cause cause (cause_by plan starts courses stopped t)

-- the entry is allowed, by the open starts, how each test has fared, whether there is a Stop, and
-- whether one is due
abbrev pub is_allowed_by : PlanParts → List Running → (ℕ → Course) → Bool → Bool → Entry → Bool
is_allowed_by plan starts courses stopped due (Start t a w p) =
    not due && starts_by plan starts courses stopped a p (test_at plan.tests t) && not (is_busy_with w starts)
is_allowed_by plan starts courses stopped due (End t a w seen) = not due && has_start t a w starts
is_allowed_by plan starts courses stopped due (Settle t cause) =
    not due && settles_by plan starts courses stopped cause (test_at plan.tests t)
is_allowed_by plan starts courses stopped due Stop = due

-- the number of the test that the entry is about
abbrev pub test_of_entry : Entry → Option ℕ
test_of_entry (Start t a w p) = Some t
test_of_entry (End t a w seen) = Some t
test_of_entry (Settle t cause) = Some t
test_of_entry Stop = None

-- the test with this number has a verdict of the failing class; no number has none
abbrev pub has_failed_by : PlanParts → List Running → (ℕ → Course) → Option ℕ → Bool
has_failed_by plan starts courses None = false
has_failed_by plan starts courses (Some number) = is_failing_in (verdict_by_number plan starts courses number)
