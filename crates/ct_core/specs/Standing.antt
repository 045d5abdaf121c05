-- The states of the tests of a plan, as a history shows them. Source:
-- CMake manual, ctest(1), --repeat; the states are this project's own.
use Rattle.std.specs.Prelude.{ℕ, Bool, true, false, List, length, map, filter, Option, Some, None, is_none}
use Rattle.ct_verdict.specs.declared.verdict.Verdict.{Verdict}
use Rattle.ct_verdict.specs.declared.repeat.Repeat.{Repeat}
use Rattle.ct_history.specs.declared.plan.PlanTest.{PlanTest}
use Rattle.ct_history.specs.declared.plan.PlanParts.{PlanParts}
use Rattle.ct_history.specs.declared.history.Entry.{Entry}
use Rattle.ct_history.specs.History.{Running, attempts_of, open_start_of_test}
use Rattle.ct_history.specs.Verdicts.{verdict_in, verdict_of_test}
use Rattle.ct_core.specs.declared.state.State.{State}
use Rattle.ct_core.specs.declared.state.State.TheVariants.{Pending, Open, Final}

-- the state by the verdict, the open start and the number of ended attempts:
-- final if there is a verdict, else open if there is an open start, else pending
abbrev pub standing : Option Verdict → Option Running → ℕ → State
standing (Some v) running attempts = Final v
standing None (Some r) attempts = Open attempts r.placement
standing None None attempts = Pending attempts

-- the state of a test, as the history shows it
abbrev pub state_of : Repeat → List Entry → PlanTest → State
state_of repeat entries t =
    standing (verdict_in repeat t entries) (open_start_of_test t.number entries)
    (length (attempts_of t.number t.rules entries))

-- the state of each test of the plan, in order
abbrev pub states_of : PlanParts → List Entry → List State
states_of plan entries = map (state_of plan.repeat entries) plan.tests

-- the verdict of a test in this state, if it is final
abbrev pub verdict_of_state : State → Option Verdict
verdict_of_state (Pending attempts) = None
verdict_of_state (Open attempts placement) = None
verdict_of_state (Final v) = Some v

-- a test in this state is neither final nor open
abbrev pub is_pending_state : State → Bool
is_pending_state (Pending attempts) = true
is_pending_state (Open attempts placement) = false
is_pending_state (Final v) = false

-- how many of these states are not final
abbrev pub count_unfinished : List State → ℕ
count_unfinished states = length (filter (λ s. is_none (verdict_of_state s)) states)

-- how many of a test's predecessors are not final
abbrev pub open_before : PlanParts → List Entry → PlanTest → ℕ
open_before plan entries t = length (filter (λ j. is_none (verdict_of_test plan entries j)) t.before)
