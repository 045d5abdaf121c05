-- What a core keeps beside its history, so that no call has to search the history. This project's own.
use Rattle.std.specs.Prelude.{◌≡◌, ℕ, ◌+◌, ◌<◌, ◌≤◌, Bool, ◌&&◌, not, true, false, List, [], ◌∷◌, length, map, Option, Some, None, slice_get, slice_set, nat_lt, slice_index_or, if◌then◌else◌}
use Rattle.ct_verdict.specs.declared.verdict.Cause.{Cause}
use Rattle.ct_verdict.specs.declared.verdict.Verdict.TheVariants.{NotRun}
use Rattle.ct_queue.specs.Ready.{with_out}
use Rattle.ct_queue.specs.Marks.{is_marked}
use Rattle.ct_core.specs.declared.state.State.{State}
use Rattle.ct_core.specs.declared.state.State.TheVariants.{Pending, Final}
use Rattle.ct_verdict.specs.declared.verdict.Verdict.{Verdict}
use Rattle.ct_verdict.specs.Verdict.{is_failing_verdict}
use Rattle.ct_history.specs.declared.plan.PlanTest.{PlanTest}
use Rattle.ct_history.specs.declared.plan.PlanParts.{PlanParts}
use Rattle.ct_history.specs.declared.history.Entry.{Entry}
use Rattle.ct_history.specs.Plan.{IsSound}
use Rattle.ct_history.specs.History.{has_stop, is_stop, open_starts}
use Rattle.ct_history.specs.Legal.{is_allowed_so_far, is_legal, is_stop_due}
use Rattle.ct_history.specs.Verdicts.{verdict_of_test}
use Rattle.ct_core.specs.declared.parts.Parts.{Parts}
use Rattle.ct_core.specs.Bunches.{AreBunchesOf}
use Rattle.ct_core.specs.Places.{stop_places}
use Rattle.ct_core.specs.InUse.{IsInUse}
use Rattle.ct_core.specs.Standing.{count_unfinished, is_pending_state, states_of}
use Rattle.ct_core.specs.Waiting.{AreSettleable, IsQueued, followers_of}

-- the state that was looked up is there, and is pending
abbrev pub is_pending_in : Option State → Bool
is_pending_in None = false
is_pending_in (Some s) = is_pending_state s

-- the test at a place is pending
abbrev pub is_pending_at_place : List State → ℕ → Bool
is_pending_at_place states place = is_pending_in (slice_get states place)

-- the plan is sound. The states, what is in use and whether there is
-- a Stop agree with the history. The followers agree with the plan.
pub record AreCurrent (plan : PlanParts) (entries : List Entry) (parts : Parts) : Type 0 where
  pub sound : IsSound plan
  pub states : parts.states.items ≡ states_of plan entries
  pub in_use : IsInUse plan (open_starts entries) parts.in_use
  pub stopped : parts.stopped ≡ has_stop entries
  pub followers : parts.followers.items ≡ map (λ (t : PlanTest). followers_of plan.tests t.number) plan.tests

-- the entries in front of the first Stop; all entries, if there is no Stop
abbrev pub before_stop : List Entry → List Entry
before_stop [] = []
before_stop (e ∷ es) = if is_stop e then [] else e ∷ before_stop es

-- the marks of the tests that may be settled agree with the history, and the bunches agree
-- with the plan. Without a Stop, the ready set agrees with the history; behind a Stop, with
-- the entries in front of it. The tests of `left` are not updated yet.
pub record AreQueued (plan : PlanParts) (entries : List Entry) (left : List ℕ) (parts : Parts) : Type 0 where
  pub ready : has_stop entries ≡ false → IsQueued plan entries left parts.ready
  pub halted : has_stop entries ≡ true → IsQueued plan (before_stop entries) [] parts.ready
  pub bunches : AreBunchesOf plan parts.keys.items parts.ready.bunches
  pub settleable : AreSettleable plan entries left parts.settleable

-- while an attempt is open, the room suffices for an End of each open
-- attempt and for a Stop that may still come, so an End takes no memory
abbrev pub HasRoomToEnd : List Entry → ℕ → Parts → Type 0
HasRoomToEnd entries room parts =
    0 < parts.in_use.open_count → length entries + parts.in_use.open_count + stop_places entries ≤ room

-- the history is legal, it has room for what is still to end, and each part agrees with it
pub record IsKept (plan : PlanParts) (entries : List Entry) (room : ℕ) (parts : Parts) : Type 0 where
  pub legal : is_legal plan entries ≡ true
  pub reserved : HasRoomToEnd entries room parts
  pub current : AreCurrent plan entries parts
  pub unfinished : parts.unfinished ≡ count_unfinished parts.states.items
  pub queued : AreQueued plan entries [] parts

-- the last entry made the test final with this verdict. Only three parts are not updated
-- yet: the number of tests that are not final, the test's followers, and a due Stop.
pub record IsConcluding
    (plan : PlanParts) (entries : List Entry) (room : ℕ) (number : ℕ) (verdict : Verdict) (parts : Parts)
    : Type 0 where
  pub allowed : is_allowed_so_far plan entries ≡ true
  pub final : verdict_of_test plan entries number ≡ Some verdict
  pub due : is_stop_due plan entries
      ≡ (plan.stop_on_failure && is_failing_verdict verdict && not (has_stop entries))
  pub reserved : HasRoomToEnd entries room parts
  pub stop_room : has_stop entries ≡ false → length entries < room
  pub current : AreCurrent plan entries parts
  pub unfinished : parts.unfinished ≡ count_unfinished parts.states.items + 1
  pub waiting : has_stop entries ≡ false → AreQueued plan entries (followers_of plan.tests number) parts
  pub stopped : has_stop entries ≡ true → AreQueued plan entries [] parts

-- the numbers of the tests that wait for the test at a place; none for a place past the last test
abbrev pub followers_at : Parts → ℕ → List ℕ
followers_at parts place = slice_index_or parts.followers.items place []

-- only the ready set and the marks of the tests that may be settled can have changed
pub record IsLowered (old new : Parts) : Type 0 where
  pub states : new.states.items ≡ old.states.items
  pub unfinished : new.unfinished ≡ old.unfinished
  pub in_use : new.in_use ≡ old.in_use
  pub keys : new.keys.items ≡ old.keys.items
  pub followers : new.followers.items ≡ old.followers.items
  pub stopped : new.stopped ≡ old.stopped

-- the test at this place is pending again, after so many attempts. Without a
-- Stop it is no longer out of the ready set; behind a Stop it may be settled, and the ready set stays.
pub record GoesOnPending (place number attempts : ℕ) (old new : Parts) : Type 0 where
  pub states : new.states.items ≡ slice_set old.states.items place (Pending attempts)
  pub unfinished : new.unfinished ≡ old.unfinished
  pub in_use : new.in_use ≡ old.in_use
  pub keys : new.keys.items ≡ old.keys.items
  pub followers : new.followers.items ≡ old.followers.items
  pub stopped : new.stopped ≡ old.stopped
  pub ready : old.stopped ≡ false → new.ready ≡ with_out old.ready number false
  pub halted : old.stopped ≡ true → new.ready ≡ old.ready
  pub settleable :
      new.settleable ≡ (if old.stopped then slice_set old.settleable place true else old.settleable)

-- the test at this place is settled with this cause: it is final, and not marked.
-- Without a Stop it is out of the ready set; behind a Stop the ready set stays.
pub record IsSettled (place number : ℕ) (cause : Cause) (old new : Parts) : Type 0 where
  pub states : new.states.items ≡ slice_set old.states.items place (Final (NotRun cause))
  pub unfinished : new.unfinished ≡ old.unfinished
  pub in_use : new.in_use ≡ old.in_use
  pub keys : new.keys.items ≡ old.keys.items
  pub followers : new.followers.items ≡ old.followers.items
  pub stopped : new.stopped ≡ old.stopped
  pub ready : old.stopped ≡ false → new.ready ≡ with_out old.ready number true
  pub halted : old.stopped ≡ true → new.ready ≡ old.ready
  pub settleable : new.settleable ≡ slice_set old.settleable place false

-- a Stop is noted, and the ready set stays. Among the first `places` places
-- exactly those of pending tests are marked, and each other mark stays.
pub record IsStoppedTo (places : ℕ) (old new : Parts) : Type 0 where
  pub states : new.states.items ≡ old.states.items
  pub unfinished : new.unfinished ≡ old.unfinished
  pub in_use : new.in_use ≡ old.in_use
  pub keys : new.keys.items ≡ old.keys.items
  pub followers : new.followers.items ≡ old.followers.items
  pub ready : new.ready ≡ old.ready
  pub stopped : new.stopped ≡ true
  pub room : length new.settleable ≡ length old.settleable
  pub marked : (place : ℕ)
      → is_marked new.settleable place
      ≡ (if nat_lt place places
      then is_pending_at_place old.states.items place
      else is_marked old.settleable place)

-- a Stop is noted, and exactly the pending tests are marked: each of them may be settled
abbrev pub IsStopped : Parts → Parts → Type 0
IsStopped old new = IsStoppedTo (length old.states.items) old new
