-- What a Start waits for: the first condition of a Start that it does not meet. Source: CMake manual,
-- cmake-properties(7), DEPENDS, FIXTURES_REQUIRED, RUN_SERIAL, PROCESSORS, RESOURCE_LOCK; ctest(1), Resource
-- Allocation. The order of the conditions is this project's own.
use Rattle.std.specs.Prelude.{◌≡◌, ℕ, ◌+◌, ◌-◌, min, Bool, true, false, not, ◌&&◌, ◌||◌, List, [], ◌∷◌, ◌++◌, fold, filter, find, map, nat_le, Option, Some, None, option_map, option_and_then, is_none, if◌then◌else◌}
use Rattle.std.specs.Option.{unwrap_or}
use Rattle.std.specs.List.{list_any}
use Rattle.std.specs.Ordering.{nat_cmp, is_lt}
use Rattle.std.specs.Cmp.Lexicographic.{slice_cmp}
use Rattle.ct_base.specs.declared.defs.Resource.{Resource}
use Rattle.ct_base.specs.Names.{is_among}
use Rattle.ct_alloc.specs.declared.placement.Pick.{Pick}
use Rattle.ct_alloc.specs.declared.placement.Placement.{Placement}
use Rattle.ct_alloc.specs.Placement.{slots_at}
use Rattle.ct_history.specs.declared.plan.PlanTest.{PlanTest}
use Rattle.ct_history.specs.declared.plan.PlanParts.{PlanParts}
use Rattle.ct_history.specs.declared.history.Entry.{Entry}
use Rattle.ct_history.specs.Plan.{test_at}
use Rattle.ct_history.specs.History.{Running, has_stop, is_busy_in, open_starts}
use Rattle.ct_history.specs.Seen.{is_busy_with, processors_used, slots_used}
use Rattle.ct_history.specs.Verdicts.{verdict_of_test}
use Rattle.ct_history.specs.Rules.{first_unpassed, follows_finals, has_processors, is_excluded, is_pending, is_placed, is_serial, locks_of, shared_of}
use Rattle.ct_history.specs.Legal.{is_next_attempt, is_stop_due}
use Rattle.ct_explain.specs.declared.wait.Wait.{Wait}
use Rattle.ct_explain.specs.declared.wait.Wait.TheVariants.{Attempt, Predecessor, Serial, Processors, Lock, Resource as Slots, Worker, Nothing}

-- the first of these that there is
abbrev pub first_of : List (Option Wait) → Option Wait
first_of [] = None
first_of (None ∷ others) = first_of others
first_of (Some wait ∷ others) = Some wait

-- the number, unless the condition holds
abbrev pub unless : Bool → ℕ → Option ℕ
unless condition number = if condition then None else Some number

-- the lesser one of two numbers, where there is a first one
abbrev pub lesser : Option ℕ → ℕ → Option ℕ
lesser None number = Some number
lesser (Some other) number = Some (min other number)

-- the least of these numbers
abbrev pub least : List ℕ → Option ℕ
least numbers = fold lesser None numbers

-- the least test of these starts that meets a condition
abbrev pub least_open : (ℕ → Bool) → List Running → Option ℕ
least_open meets starts = least (filter meets (map (λ (r : Running). r.test) starts))

-- the least predecessor of the test that is not final; `before` ascends
abbrev pub unfinished : PlanParts → PlanTest → List Entry → Option ℕ
unfinished plan t front = find (λ j. is_none (verdict_of_test plan front j)) t.before

-- the least test of these starts such that it or the test is serial
abbrev pub open_serial : List PlanTest → PlanTest → List Running → Option ℕ
open_serial tests t starts = least_open (λ x. t.serial || is_serial (test_at tests x)) starts

-- the test holds the lock alone
abbrev pub holds_lock : List ℕ → Option PlanTest → Bool
holds_lock lock test = is_among lock (locks_of test)

-- the test holds the lock alone, or shares it
abbrev pub names : List ℕ → Option PlanTest → Bool
names lock test = holds_lock lock test || is_among lock (shared_of test)

-- two tests exclude each other on a lock: both name it, and one of them holds it alone
abbrev pub exclude_on : List ℕ → Option PlanTest → Option PlanTest → Bool
exclude_on lock one other =
    (holds_lock lock one && names lock other) || (names lock one && holds_lock lock other)

-- the lesser one of two names, in byte order, where there is a first one
abbrev pub lesser_name : Option (List ℕ) → List ℕ → Option (List ℕ)
lesser_name None name = Some name
lesser_name (Some other) name = Some (if is_lt (slice_cmp nat_cmp name other) then name else other)

-- the least of these names, in byte order
abbrev pub least_name : List (List ℕ) → Option (List ℕ)
least_name names = fold lesser_name None names

-- one of these starts excludes the test on the lock
abbrev pub is_excluded_on : List PlanTest → PlanTest → List Running → List ℕ → Bool
is_excluded_on tests t starts lock =
    list_any (λ (r : Running). exclude_on lock (Some t) (test_at tests r.test)) starts

-- the least lock on which one of these starts excludes the test
abbrev pub least_lock : List PlanTest → PlanTest → List Running → Option (List ℕ)
least_lock tests t starts = least_name (filter (is_excluded_on tests t starts) (t.locks ++ t.shared))

-- the lock, and the least test of these starts that excludes the test on it
abbrev pub lock_wait_on : List PlanTest → PlanTest → List Running → List ℕ → Option Wait
lock_wait_on tests t starts lock =
    option_map (λ x. Lock lock x) (least_open (λ x. exclude_on lock (Some t) (test_at tests x)) starts)

-- the least lock on which one of these starts excludes the test, and the least test that does so
abbrev pub lock_wait : List PlanTest → PlanTest → List Running → Option Wait
lock_wait tests t starts = option_and_then (lock_wait_on tests t starts) (least_lock tests t starts)

-- the least place of these resources, which are counted from `place` on, where the picks do not fit beside
-- the used slots
abbrev pub full_from : ℕ → List Resource → (ℕ → ℕ) → List Pick → Option ℕ
full_from place [] used picks = None
full_from place (resource ∷ resources) used picks =
    if nat_le (used place + slots_at place picks) resource.slots
    then full_from (place + 1) resources used picks
    else Some place

-- the least place of a resource where the placement does not fit beside the used slots
abbrev pub full_place : Option (List Resource) → (ℕ → ℕ) → Option Placement → Option ℕ
full_place None used placement = None
full_place (Some resources) used None = None
full_place (Some resources) used (Some p) = full_from 0 resources used p.picks

-- the processors that these starts use, unless the test's own suffice beside them
abbrev pub scarce_processors : PlanParts → PlanTest → List Running → Option ℕ
scarce_processors plan t starts =
    unless (nat_le (t.processors + processors_used plan.tests starts) plan.level)
    (processors_used plan.tests starts)

-- the worker, if it made one of these starts
abbrev pub busy_worker : ℕ → List Running → Option ℕ
busy_worker worker starts = unless (not (is_busy_with worker starts)) worker

-- what a Start of the test by this worker with this placement waits for of these open starts, in order
abbrev pub waits_beside : PlanParts → List Running → PlanTest → ℕ → Option Placement → List (Option Wait)
waits_beside plan starts t worker placement =
    option_map Serial (open_serial plan.tests t starts)
    ∷ option_map Processors (scarce_processors plan t starts)
    ∷ lock_wait plan.tests t starts
    ∷ option_map Slots (full_place plan.resources (slots_used starts) placement)
    ∷ option_map Worker (busy_worker worker starts)
    ∷ []

-- the first of these waits, if there is one
abbrev pub first_wait : List (Option Wait) → Wait
first_wait waits = unwrap_or (first_of waits) Nothing

-- what this attempt of the test by this worker with this placement waits for behind these entries: the first
-- of the attempt in front of it, a predecessor, a serial test, processors, a lock, a resource, the worker
abbrev pub wait_of : PlanParts → List Entry → PlanTest → ℕ → ℕ → Option Placement → Wait
wait_of plan front t attempt worker placement =
    first_wait
    (option_map Attempt (unless (is_next_attempt t attempt front) (attempt - 1))
    ∷ option_map Predecessor (unfinished plan t front)
    ∷ waits_beside plan (open_starts front) t worker placement)

-- a Start meets each condition that it could wait for: its attempt is the next one, the tests in front of it
-- are final, no open test excludes it, its processors and its placement fit, and its worker is idle
pub record MeetsEach (plan : PlanParts) (front : List Entry) (t : PlanTest) (attempt worker : ℕ)
    (placement : Option Placement) : Type 0 where
  pub next : is_next_attempt t attempt front ≡ true
  pub final : follows_finals plan t front ≡ true
  pub apart : is_excluded plan.tests t front ≡ false
  pub processors : has_processors plan t front ≡ true
  pub fits : full_place plan.resources (slots_used (open_starts front)) placement ≡ None
  pub idle : is_busy_in worker front ≡ false

-- nothing forbids a Start of the test beside what it could wait for: no Stop is due and none stands, the test
-- is neither final nor open, its setups have passed, it has no fixed cause, and its placement is one for it
pub record IsElseReady (plan : PlanParts) (front : List Entry) (t : PlanTest) (placement : Option Placement)
    : Type 0 where
  pub no_stop_due : is_stop_due plan front ≡ false
  pub goes_on : has_stop front ≡ false
  pub pending : is_pending plan t front ≡ true
  pub setups : first_unpassed plan t front ≡ None
  pub fixed : t.fixed ≡ None
  pub placed : is_placed plan.resources t.needs (λ place. 0) placement ≡ true
