-- Which tests of a plan wait for others, and which of them may be settled.
-- Source: CMake manual, cmake-properties(7), DEPENDS, FIXTURES_REQUIRED. The sets are this project's own.
use Rattle.std.specs.Prelude.{◌≡◌, ℕ, ◌+◌, ◌≤◌, Bool, true, false, not, ◌&&◌, List, length, Option, Some, None, is_some, slice_get, if◌then◌else◌}
use Rattle.ct_base.specs.Numbers.{is_in}
use Rattle.ct_verdict.specs.declared.verdict.Cause.{Cause}
use Rattle.ct_history.specs.declared.plan.PlanTest.{PlanTest}
use Rattle.ct_history.specs.declared.plan.PlanParts.{PlanParts}
use Rattle.ct_history.specs.declared.history.Entry.{Entry}
use Rattle.ct_history.specs.Plan.{test_at}
use Rattle.ct_history.specs.Rules.{cause_behind, first_unpassed, is_pending, is_ready, settle_cause}
use Rattle.ct_history.specs.History.{has_stop}
use Rattle.ct_queue.specs.Ready.{ReadyValue, StandsIn, predecessors_left, is_out}
use Rattle.ct_queue.specs.Marks.{is_marked}
use Rattle.ct_core.specs.Lines.{AreLinesOf}
use Rattle.ct_core.specs.Standing.{open_before}
pub use Rattle.ct_core.specs.Followers.{followers_of}

-- how many predecessors of the test that was looked up are not final; 0 if there is no test
abbrev pub open_before_at : PlanParts → List Entry → Option PlanTest → ℕ
open_before_at plan entries None = 0
open_before_at plan entries (Some t) = open_before plan entries t

-- the test that was looked up is there, and is neither final nor open
abbrev pub is_pending_at : PlanParts → List Entry → Option PlanTest → Bool
is_pending_at plan entries None = false
is_pending_at plan entries (Some t) = is_pending plan t entries

-- the cause that a test would be settled with once its predecessors are final
abbrev pub cause_then : PlanParts → List Entry → PlanTest → Option Cause
cause_then plan entries t = cause_behind (first_unpassed plan t entries) t.fixed

-- the ready set has the order of the queue. A test's count is the number of its
-- predecessors that are not final, plus one for a test of `left`. A test is out
-- exactly if it is final or open. The tests of one line have the same demand.
pub record IsQueued (plan : PlanParts) (entries : List Entry) (left : List ℕ) (ready : ReadyValue)
    : Type 0 where
  pub order : ready.order ≡ plan.queue
  pub counted : length ready.counts ≡ length plan.queue
  pub said : length ready.outs ≡ length plan.queue
  pub counts : (n : ℕ) → StandsIn plan.queue n
      → predecessors_left ready n
      ≡ open_before_at plan entries (test_at plan.tests n) + (if is_in left n then 1 else 0)
  pub outs : (n : ℕ) → StandsIn plan.queue n
      → is_out ready n ≡ not (is_pending_at plan entries (test_at plan.tests n))
  pub lines : AreLinesOf plan ready.lines

-- the test that was looked up is there, may be settled, and is not in `left`
abbrev pub settles_but : PlanParts → List Entry → List ℕ → Option PlanTest → Bool
settles_but plan entries left None = false
settles_but plan entries left (Some t) =
    is_some (settle_cause plan t entries) && not (is_in left t.number)

-- there is room for a mark of each test, and exactly the
-- tests that may be settled and are not in `left` are marked
pub record AreSettleable (plan : PlanParts) (entries : List Entry) (left : List ℕ) (marks : List Bool)
    : Type 0 where
  pub room : length plan.tests ≤ length marks
  pub marked :
      (place : ℕ) → is_marked marks place ≡ settles_but plan entries left (slice_get plan.tests place)

-- the test with this number is in the plan, pending and
-- ready, and there is no Stop: it waits for room alone
pub record IsDue (plan : PlanParts) (entries : List Entry) (number : ℕ) : Type 0 where
  pub test : PlanTest
  pub planned : test_at plan.tests number ≡ Some test
  pub goes_on : has_stop entries ≡ false
  pub pending : is_pending plan test entries ≡ true
  pub ready : is_ready plan test entries ≡ true
