-- The bunches of a queue: tests with the same key, which is a lock to hold or to share, or, without a key,
-- with the same demand. Source: CMake manual, cmake-properties(7), RESOURCE_LOCK. The bunches are this
-- project's own.
use Rattle.std.specs.Prelude.{◌≡◌, ℕ, ◌<◌, ⊤, Bool, true, false, not, ◌==◌, List, length, All, Option, Some, None, option_and_then, option_map, slice_get, slice_index, slice_index_or, if◌then◌else◌}
use Rattle.ct_history.specs.declared.plan.PlanTest.{PlanTest}
use Rattle.ct_history.specs.declared.plan.PlanParts.{PlanParts}
use Rattle.ct_history.specs.declared.history.Entry.{Entry}
use Rattle.ct_history.specs.Plan.{test_at}
use Rattle.ct_history.specs.Rules.{CanStart, may_start_at}
use Rattle.ct_queue.specs.Ready.{ReadyValue, IsHead, IsOfNewBunch, IsOfSeenBunch}
use Rattle.ct_core.specs.declared.in_use.InUse.{InUse}
use Rattle.ct_core.specs.declared.bunches.KeyPlace.{KeyPlace}
use Rattle.ct_core.specs.declared.bunches.KeyPlace.TheVariants.{Alone, Shared}
use Rattle.ct_core.specs.InUse.{has_room_beside, is_closed}
use Rattle.ct_core.specs.Lines.{demand_at}

-- the test at a place of the queue
abbrev pub test_in_queue : PlanParts → ℕ → Option PlanTest
test_in_queue plan place = option_and_then (test_at plan.tests) (slice_get plan.queue place)

-- what tests wait for together: a lock, to hold it alone or to share it
pub record Key : Type 0 where
  pub lock : List ℕ
  pub alone : Bool

-- the key at a place among the test's locks: a lock that it holds alone, or one that it shares
abbrev pub key_in : PlanTest → KeyPlace → Option Key
key_in t (Alone at) =
    option_map (λ (lock : List ℕ). record { lock = lock; alone = true }) (slice_get t.locks at)
key_in t (Shared at) =
    option_map (λ (lock : List ℕ). record { lock = lock; alone = false }) (slice_get t.shared at)

-- the key at a place among the locks of the test that was looked up; none if the
-- test, the place or the lock is missing, or if the test has needs
abbrev pub key_of : Option PlanTest → Option KeyPlace → Option Key
key_of None at = None
key_of (Some t) None = None
key_of (Some t) (Some at) = if length t.needs == 0 then key_in t at else None

-- the key of the test at a place of the queue: what it waits for together with other tests, if there is that
abbrev pub key_at : PlanParts → List (Option KeyPlace) → ℕ → Option Key
key_at plan keys place = key_of (test_in_queue plan place) (slice_index_or keys place None)

-- the place is there, and is that of a lock that the test holds alone
abbrev pub is_alone : Option KeyPlace → Bool
is_alone None = false
is_alone (Some (Alone at)) = true
is_alone (Some (Shared at)) = false

-- the bunch of each test of the queue is a place of the queue. The
-- test there has the same key, and if that is none, the same demand.
pub record AreBunchesOf (plan : PlanParts) (keys : List (Option KeyPlace)) (bunches : List ℕ) : Type 0 where
  pub many : length bunches ≡ length plan.queue
  pub within : All (λ bunch. bunch < length plan.queue) bunches
  pub locked : (place : ℕ) → place < length plan.queue
      → key_at plan keys (slice_index bunches place) ≡ key_at plan keys place
  pub alike : (place : ℕ) → place < length plan.queue → key_at plan keys place ≡ None
      → demand_at plan (slice_index bunches place) ≡ demand_at plan place

-- there is a key, and its lock is not closed to those that wait for it
abbrev pub is_open_key : InUse → Option Key → Bool
is_open_key u None = false
is_open_key u (Some key) = not (is_closed u key.alone key.lock)

-- the test that was looked up is there, and has room beside what is in use
abbrev pub has_room_at : PlanParts → InUse → Option PlanTest → Bool
has_room_at plan in_use None = false
has_room_at plan in_use (Some t) = has_room_beside plan.level in_use t

-- the place stands in front of the end, if an end is given
abbrev pub IsBefore : Option ℕ → ℕ → Type 0
IsBefore None place = ⊤
IsBefore (Some end) place = place < end

-- the bunch of each head in front of the end was seen: it has a head up to the given place
abbrev pub NoNewBunchTo : ReadyValue → Option ℕ → Option ℕ → Type 0
NoNewBunchTo ready given end =
    (head : ℕ) → IsHead ready head → IsBefore end head → IsOfSeenBunch ready given head

-- a head of a new bunch is found, in front of the end; each earlier head is of a bunch that was seen
pub record IsNewBunchTo (ready : ReadyValue) (given end : Option ℕ) (found : ℕ) : Type 0 where
  pub new : IsOfNewBunch ready given found
  pub before : IsBefore end found

-- no test may start at a head of the place's bunch that is behind the place and in front of the end
abbrev pub NoneOfBunch : PlanParts → List Entry → ReadyValue → ℕ → Option ℕ → Type 0
NoneOfBunch plan entries ready place end =
    (head : ℕ) → place < head → IsBefore end head
    → slice_index ready.bunches head ≡ slice_index ready.bunches place → IsHead ready head
    → CanStart plan entries (slice_index plan.queue head) → ⊥

-- a head of the place's bunch is found, behind the place and in front of the end. Its test may
-- start without a placement, and no test may start at a head of the bunch between the two.
pub record IsFirstOfBunch
    (plan : PlanParts) (entries : List Entry) (ready : ReadyValue) (place : ℕ) (end : Option ℕ) (found : ℕ)
    : Type 0 where
  pub behind : place < found
  pub before : IsBefore end found
  pub head : IsHead ready found
  pub may : may_start_at plan entries None (test_at plan.tests (slice_index plan.queue found)) ≡ true
  pub first : NoneOfBunch plan entries ready place (Some found)
