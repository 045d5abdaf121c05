-- Which histories are legal for a plan, and when the open starts use no more than is declared. Source: CMake
-- manual, cmake-properties(7), PROCESSORS, RESOURCE_LOCK, RUN_SERIAL; ctest(1), Resource Allocation,
-- --stop-on-failure. The order of entries is this project's choice.
use Rattle.std.specs.Prelude.{◌≡◌, ℕ, ◌+◌, ◌-◌, ◌≤◌, Bool, true, false, not, ◌&&◌, List, [], ◌∷◌, ◌++◌, length, take, IfSome, AllPairs, Option, Some, None, slice_get, ◌==◌}
use Rattle.std.specs.List.{list_any}
use Rattle.ct_base.specs.declared.defs.Resource.{Resource}
use Rattle.ct_alloc.specs.declared.placement.Placement.{Placement}
use Rattle.ct_verdict.specs.declared.verdict.Cause.{Cause}
use Rattle.ct_verdict.specs.declared.verdict.Cause.TheVariants.{Unstarted, Lacks, Fixture, NotAvailable, BadOperation, Insufficient, Stopped, Memory}
use Rattle.ct_history.specs.declared.plan.PlanTest.{PlanTest}
use Rattle.ct_history.specs.declared.plan.PlanParts.{PlanParts}
use Rattle.ct_history.specs.declared.history.Entry.{Entry}
use Rattle.ct_history.specs.declared.history.Entry.TheVariants.{Start, End, Settle, Stop}
pub use Rattle.ct_history.specs.Plan.{test_at}
use Rattle.ct_history.specs.History.{Running, open_starts, is_busy_in, holds_start, used_processors, used_slots, attempts_of}
use Rattle.ct_history.specs.Verdicts.{verdict_in, is_failing_in, are_all_final}
use Rattle.ct_history.specs.Rules.{may_start, settle_cause, exclude}

-- some test of the plan has a verdict of the failing class
abbrev pub has_failing : PlanParts → List Entry → Bool
has_failing plan entries = list_any (λ t. is_failing_in (verdict_in plan.repeat t entries)) plan.tests

-- the entries without the last one
abbrev pub without_last : List Entry → List Entry
without_last entries = take (length entries - 1) entries

-- the last of these entries made the first verdict of the failing class final
abbrev pub ends_in_first_failure : PlanParts → List Entry → Bool
ends_in_first_failure plan entries = has_failing plan entries && not (has_failing plan (without_last entries))

-- a Stop is due directly behind these entries: the plan stops on failure, and the last entry
-- made the first failing verdict final
abbrev pub is_stop_due : PlanParts → List Entry → Bool
is_stop_due plan entries = plan.stop_on_failure && ends_in_first_failure plan entries

-- the cause that a test may be settled with is there, and is this cause
abbrev pub same_cause : Cause → Option Cause → Bool
same_cause Unstarted (Some Unstarted) = true
same_cause (Lacks j) (Some (Lacks k)) = j == k
same_cause (Fixture j) (Some (Fixture k)) = j == k
same_cause NotAvailable (Some NotAvailable) = true
same_cause (BadOperation j) (Some (BadOperation k)) = j == k
same_cause Insufficient (Some Insufficient) = true
same_cause Stopped (Some Stopped) = true
same_cause Memory (Some Memory) = true
same_cause _ _ = false

-- the attempt is the test's next one: one more than its Ends so far
abbrev pub is_next_attempt : PlanTest → ℕ → List Entry → Bool
is_next_attempt t attempt front = attempt == length (attempts_of t.number t.rules front) + 1

-- the test that was looked up is there, and may start with this placement as this attempt
abbrev pub starts : PlanParts → List Entry → ℕ → Option Placement → Option PlanTest → Bool
starts plan front attempt placement None = false
starts plan front attempt placement (Some t) =
    may_start plan t placement front && is_next_attempt t attempt front

-- the test that was looked up is there, and may be settled with this cause
abbrev pub settles : PlanParts → List Entry → Cause → Option PlanTest → Bool
settles plan front cause None = false
settles plan front cause (Some t) = same_cause cause (settle_cause plan t front)

-- the entry is allowed by the entries in front of it. Where a Stop is due, it is a Stop. Else
-- it is a Start that may be made by a worker that is not busy, an End of its worker's open
-- start, or a Settle with the right cause.
abbrev pub is_allowed : PlanParts → List Entry → Entry → Bool
is_allowed plan front (Start t a w p) =
    not (is_stop_due plan front) && starts plan front a p (test_at plan.tests t) && not (is_busy_in w front)
is_allowed plan front (End t a w seen) = not (is_stop_due plan front) && holds_start t a w front
is_allowed plan front (Settle t cause) =
    not (is_stop_due plan front) && settles plan front cause (test_at plan.tests t)
is_allowed plan front Stop = is_stop_due plan front

-- each of these entries is allowed by the entries in front of it, those of `front` included
abbrev pub are_allowed_behind : PlanParts → List Entry → List Entry → Bool
are_allowed_behind plan front [] = true
are_allowed_behind plan front (e ∷ es) =
    is_allowed plan front e && are_allowed_behind plan (front ++ e ∷ []) es

-- the history is allowed so far: each entry is allowed by the entries in front of it
abbrev pub is_allowed_so_far : PlanParts → List Entry → Bool
is_allowed_so_far plan entries = are_allowed_behind plan [] entries

-- the history is legal: it is allowed so far, and no Stop is left due
abbrev pub is_legal : PlanParts → List Entry → Bool
is_legal plan entries = is_allowed_so_far plan entries && not (is_stop_due plan entries)

-- the history is complete: each test is final, and nothing is open
pub record IsComplete (plan : PlanParts) (entries : List Entry) : Type 0 where
  pub final : are_all_final plan entries ≡ true
  pub closed : open_starts entries ≡ []

-- the tests of two open starts do not exclude each other
abbrev pub GetAlong : List PlanTest → Running → Running → Type 0
GetAlong tests one other = exclude (test_at tests one.test) (test_at tests other.test) ≡ false

-- the open starts use at most the declared processors and slots, and no two of their tests exclude each other
pub record IsWithin (plan : PlanParts) (entries : List Entry) : Type 0 where
  pub processors : used_processors plan.tests entries ≤ plan.level
  pub slots : IfSome plan.resources
      (λ rs. (place : ℕ) → IfSome (slice_get rs place) (λ (r : Resource). used_slots entries place ≤ r.slots))
  pub apart : AllPairs (GetAlong plan.tests) (open_starts entries)

-- the limits held at each moment: each beginning of the history is within the plan
abbrev pub StaysWithin : PlanParts → List Entry → Type 0
StaysWithin plan entries = (n : ℕ) → IsWithin plan (take n entries)
