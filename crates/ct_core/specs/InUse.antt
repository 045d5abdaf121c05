-- What the open starts of a run use together: processors, slots, locks. Source: CMake manual,
-- cmake-properties(7), PROCESSORS, RESOURCE_LOCK, RUN_SERIAL; ctest(1), Resource Allocation.
use Rattle.std.specs.Prelude.{◌≡◌, ℕ, ◌+◌, ◌-◌, ◌^◌, ◌<◌, ◌≤◌, Bool, true, not, ◌&&◌, ◌||◌, List, length, sum_by, Option, Some, None, All, nat_le, nat_lt, if◌then◌else◌}
use Rattle.std.specs.List.{list_any, list_all}
use Rattle.ct_alloc.specs.declared.placement.Placement.{Placement}
use Rattle.ct_alloc.specs.Placement.{fits_beside, slots_at}
use Rattle.ct_alloc.specs.Free.{FreeValue, are_there, used_at}
use Rattle.ct_history.specs.declared.plan.PlanTest.{PlanTest}
use Rattle.ct_history.specs.declared.plan.PlanParts.{PlanParts}
use Rattle.ct_history.specs.History.{Running, placed_slots, processors_of, test_at}
use Rattle.ct_history.specs.Rules.{is_placed, is_serial, locks_of, shared_of}
use Rattle.ct_alloc.specs.Lent.{lent}
use Rattle.ct_core.specs.Slots.{used_of}
use Rattle.ct_core.specs.Locks.{is_held, knows}
use Rattle.ct_core.specs.Sharers.{sharers_of, counts_sharers, is_shared, one_if}
use Rattle.ct_core.specs.declared.in_use.InUse.{InUse}
use Rattle.ct_base.specs.Names.{is_among}

-- each lock that a test of the plan names is known
abbrev pub KnowsLocks : List PlanTest → InUse → Type 0
KnowsLocks tests u = All (λ (t : PlanTest). list_all (knows u.locks) t.locks ≡ true) tests

-- the sharers of each lock that a test of the plan shares are counted
abbrev pub CountsSharers : List PlanTest → InUse → Type 0
CountsSharers tests u = All (λ (t : PlanTest). list_all (counts_sharers u.sharers) t.shared ≡ true) tests

-- the value says what these starts use together; it has the
-- plan's resources, and knows each lock that a test names
pub record IsInUse (plan : PlanParts) (starts : List Running) (u : InUse) : Type 0 where
  pub processors : u.processors ≡ sum_by (λ (r : Running). processors_of (test_at plan.tests r.test)) starts
  pub opens : u.open_count ≡ length starts
  pub serial : u.serial ≡ list_any (λ (r : Running). is_serial (test_at plan.tests r.test)) starts
  pub known : KnowsLocks plan.tests u
  pub locks : (name : List ℕ)
      → is_held u.locks name ≡ list_any (λ (r : Running).
      is_among name (locks_of (test_at plan.tests r.test))) starts
  pub counted : CountsSharers plan.tests u
  pub shares : (name : List ℕ)
      → sharers_of u.sharers name ≡ sum_by (λ (r : Running).
      one_if (is_among name (shared_of (test_at plan.tests r.test)))) starts
  pub resources : lent u.free ≡ plan.resources
  pub slots :
      (place : ℕ) → used_of u.free place ≡ sum_by (λ (r : Running). placed_slots place r.placement) starts

-- what is in use after a test has started with this placement
pub record Takes (t : PlanTest) (placement : Option Placement) (old new : InUse) : Type 0 where
  pub processors : new.processors ≡ old.processors + t.processors
  pub opens : new.open_count ≡ old.open_count + 1
  pub serial : new.serial ≡ (old.serial || t.serial)
  pub known : (name : List ℕ) → knows new.locks name ≡ knows old.locks name
  pub locks : (name : List ℕ) → is_held new.locks name ≡ (is_held old.locks name || is_among name t.locks)
  pub counted : (name : List ℕ) → counts_sharers new.sharers name ≡ counts_sharers old.sharers name
  pub shares : (name : List ℕ)
      → sharers_of new.sharers name ≡ sharers_of old.sharers name + one_if (is_among name t.shared)
  pub resources : lent new.free ≡ lent old.free
  pub slots : (place : ℕ) → used_of new.free place ≡ used_of old.free place + placed_slots place placement

-- what is in use after a test with this placement has ended, if no other test held its locks
pub record GivesBack (t : PlanTest) (placement : Option Placement) (old new : InUse) : Type 0 where
  pub processors : new.processors ≡ old.processors - t.processors
  pub opens : new.open_count ≡ old.open_count - 1
  pub serial : new.serial ≡ (old.serial && not t.serial)
  pub known : (name : List ℕ) → knows new.locks name ≡ knows old.locks name
  pub locks :
      (name : List ℕ) → is_held new.locks name ≡ (is_held old.locks name && not (is_among name t.locks))
  pub counted : (name : List ℕ) → counts_sharers new.sharers name ≡ counts_sharers old.sharers name
  pub shares : (name : List ℕ)
      → sharers_of new.sharers name ≡ sharers_of old.sharers name - one_if (is_among name t.shared)
  pub resources : lent new.free ≡ lent old.free
  pub slots : (place : ℕ) → used_of new.free place ≡ used_of old.free place - placed_slots place placement

-- some open test holds the lock alone or shares it
abbrev pub is_locked : InUse → List ℕ → Bool
is_locked u lock = is_held u.locks lock || is_shared u.sharers lock

-- a lock is closed to those that want to hold it alone while some open test holds or shares it, and to those
-- that want to share it while some open test holds it
abbrev pub is_closed : InUse → Bool → List ℕ → Bool
is_closed u alone lock = if alone then is_locked u lock else is_held u.locks lock

-- some open test and this test exclude each other
abbrev pub is_excluded_beside : InUse → PlanTest → Bool
is_excluded_beside u t =
    u.serial
    || t.serial && nat_lt 0 u.open_count
    || list_any (is_locked u) t.locks
    || list_any (is_held u.locks) t.shared

-- the test has room: its processors and the used ones are
-- together at most the level, and no open test excludes it
abbrev pub has_room_beside : ℕ → InUse → PlanTest → Bool
has_room_beside level u t =
    nat_le (t.processors + u.processors) level && not (is_excluded_beside u t)

-- the resources of a placement are there and have its slots
-- free. Without resources there is no placement.
abbrev pub HasFreeFor : Option FreeValue → Option Placement → Type 0
HasFreeFor None None = Unit {0}
HasFreeFor None (Some p) = ⊥
HasFreeFor (Some free) None = Unit {0}
HasFreeFor (Some free) (Some p) =
    (are_there free.resources p.picks ≡ true) × (fits_beside free.resources (used_at free) p.picks ≡ true)

-- the resources of a placement are there and have its slots
-- in use. Without resources there is no placement.
abbrev pub HasTaken : Option FreeValue → Option Placement → Type 0
HasTaken None None = Unit {0}
HasTaken None (Some p) = ⊥
HasTaken (Some free) None = Unit {0}
HasTaken (Some free) (Some p) =
    (are_there free.resources p.picks ≡ true) × ((place : ℕ) → slots_at place p.picks ≤ used_at free place)

-- a test with this placement can take what it needs
pub record CanTake (t : PlanTest) (placement : Option Placement) (u : InUse) : Type 0 where
  pub processors : u.processors + t.processors < 2 ^ 64
  pub opens : u.open_count + 1 < 2 ^ 64
  pub known : list_all (knows u.locks) t.locks ≡ true
  pub counted : list_all (counts_sharers u.sharers) t.shared ≡ true
  pub few : (name : List ℕ) → sharers_of u.sharers name + 1 < 2 ^ 64
  pub placed : is_placed (lent u.free) t.needs (used_of u.free) placement ≡ true

-- a test with this placement can give back what it took
pub record CanGive (t : PlanTest) (placement : Option Placement) (u : InUse) : Type 0 where
  pub processors : t.processors ≤ u.processors
  pub opens : 0 < u.open_count
  pub known : list_all (knows u.locks) t.locks ≡ true
  pub counted : list_all (counts_sharers u.sharers) t.shared ≡ true
  pub shares : (name : List ℕ) → one_if (is_among name t.shared) ≤ sharers_of u.sharers name
  pub slots : HasTaken u.free placement
