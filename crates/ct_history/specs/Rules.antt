-- When a test may start, and when it may be settled. Source: CMake manual, cmake-properties(7), DEPENDS,
-- FIXTURES_REQUIRED, PROCESSORS, RESOURCE_LOCK, RUN_SERIAL; ctest(1), Resource Allocation, --stop-on-failure.
-- That locks may be shared is this project's own.
use Rattle.std.specs.Prelude.{◌≡◌, ℕ, ◌+◌, Bool, true, false, not, ◌&&◌, ◌||◌, List, [], ◌∷◌, find, Option, Some, None, is_some, is_none, nat_le, if◌then◌else◌}
use Rattle.std.specs.List.{list_any, list_all}
use Rattle.ct_base.specs.declared.defs.Resource.{Resource}
use Rattle.ct_base.specs.declared.defs.Need.{Need}
use Rattle.ct_alloc.specs.declared.placement.Placement.{Placement}
use Rattle.ct_alloc.specs.Placement.{is_placement, fits_beside}
use Rattle.ct_verdict.specs.declared.verdict.Cause.{Cause}
use Rattle.ct_verdict.specs.declared.verdict.Cause.TheVariants.{Fixture, Stopped}
use Rattle.ct_history.specs.declared.plan.PlanTest.{PlanTest}
use Rattle.ct_history.specs.declared.plan.PlanParts.{PlanParts}
use Rattle.ct_history.specs.declared.history.Entry.{Entry}
pub use Rattle.ct_history.specs.Plan.{test_at}
use Rattle.ct_history.specs.History.{Running, open_starts, is_open_in, used_processors, used_slots, has_stop}
use Rattle.ct_base.specs.Names.{shares_name}
pub use Rattle.ct_history.specs.Verdicts.{is_final_in, verdict_of_test, is_passed_verdict}

-- the locks that a test holds alone
abbrev pub locks_of : Option PlanTest → List (List ℕ)
locks_of None = []
locks_of (Some t) = t.locks

-- the locks that a test shares
abbrev pub shared_of : Option PlanTest → List (List ℕ)
shared_of None = []
shared_of (Some t) = t.shared

-- one test locks the other one out: a name in `locks` of the one stands in `locks` or in `shared` of the
-- other
abbrev pub locks_out : Option PlanTest → Option PlanTest → Bool
locks_out one other =
    shares_name (locks_of one) (locks_of other) || shares_name (locks_of one) (shared_of other)

-- the test runs alone
abbrev pub is_serial : Option PlanTest → Bool
is_serial None = false
is_serial (Some t) = t.serial

-- two tests exclude each other: one of them locks the other one out, or one of them is serial
unfoldable pub exclude : Option PlanTest → Option PlanTest → Bool
exclude one other = locks_out one other || locks_out other one || is_serial one || is_serial other

-- this test and some open test exclude each other
abbrev pub is_excluded : List PlanTest → PlanTest → List Entry → Bool
is_excluded tests t entries =
    list_any (λ (r : Running). exclude (Some t) (test_at tests r.test)) (open_starts entries)

-- nothing is open
abbrev pub is_idle : List Entry → Bool
is_idle entries = not (list_any (λ (r : Running). true) (open_starts entries))

-- each test in `before` is final
abbrev pub follows_finals : PlanParts → PlanTest → List Entry → Bool
follows_finals plan t entries = list_all (λ j. is_some (verdict_of_test plan entries j)) t.before

-- the least setup that has not passed; `setups` ascends
abbrev pub first_unpassed : PlanParts → PlanTest → List Entry → Option ℕ
first_unpassed plan t entries = find (λ s. not (is_passed_verdict (verdict_of_test plan entries s))) t.setups

-- the placement is right for the test: where it has needs and resources are given, a placement for the needs
-- that fits beside the used slots; else none
abbrev pub is_placed : Option (List Resource) → List Need → (ℕ → ℕ) → Option Placement → Bool
is_placed None needs used placement = is_none placement
is_placed (Some resources) [] used placement = is_none placement
is_placed (Some resources) (need ∷ needs) used None = false
is_placed (Some resources) (need ∷ needs) used (Some p) =
    is_placement resources (need ∷ needs) p.picks && fits_beside resources used p.picks

-- the test is pending: neither final nor open
abbrev pub is_pending : PlanParts → PlanTest → List Entry → Bool
is_pending plan t entries = not (is_final_in plan.repeat t entries) && not (is_open_in t.number entries)

-- the test is ready: its predecessors are final, its setups have passed, and it has no fixed cause
abbrev pub is_ready : PlanParts → PlanTest → List Entry → Bool
is_ready plan t entries =
    follows_finals plan t entries && is_none (first_unpassed plan t entries) && is_none t.fixed

-- the test's processors and the used ones are together at most the level
abbrev pub has_processors : PlanParts → PlanTest → List Entry → Bool
has_processors plan t entries = nat_le (t.processors + used_processors plan.tests entries) plan.level

-- the processors suffice for the test, and no open test excludes it
abbrev pub has_room : PlanParts → PlanTest → List Entry → Bool
has_room plan t entries = has_processors plan t entries && not (is_excluded plan.tests t entries)

-- the test may start as soon as its needs are met: no Stop stands, it is pending and ready, and there is room
abbrev pub may_start_if_placed : PlanParts → PlanTest → List Entry → Bool
may_start_if_placed plan t entries =
    not (has_stop entries) && is_pending plan t entries && is_ready plan t entries && has_room plan t entries

-- the test may start with this placement: it may start as soon as its needs are met, and this meets them
abbrev pub may_start : PlanParts → PlanTest → Option Placement → List Entry → Bool
may_start plan t placement entries =
    may_start_if_placed plan t entries && is_placed plan.resources t.needs (used_slots entries) placement

-- the test that was looked up is there, and may start with this placement
abbrev pub may_start_at : PlanParts → List Entry → Option Placement → Option PlanTest → Bool
may_start_at plan entries placement None = false
may_start_at plan entries placement (Some t) = may_start plan t placement entries

-- the test with this number may start with some placement
pub record CanStart (plan : PlanParts) (entries : List Entry) (number : ℕ) : Type 0 where
  pub placement : Option Placement
  pub may : may_start_at plan entries placement (test_at plan.tests number) ≡ true

-- the cause that a test is settled with once its predecessors are final: its first setup that
-- did not pass, else its fixed cause
abbrev pub cause_behind : Option ℕ → Option Cause → Option Cause
cause_behind None fixed = fixed
cause_behind (Some setup) fixed = Some (Fixture setup)

-- the cause that a test may be settled with, if there is one
abbrev pub settle_cause : PlanParts → PlanTest → List Entry → Option Cause
settle_cause plan t entries =
    if not (is_pending plan t entries)
    then None
    else (if has_stop entries
    then Some Stopped
    else (if follows_finals plan t entries
    then cause_behind (first_unpassed plan t entries) t.fixed
    else None))

-- the cause that the test that was looked up may be settled with, if it is there
abbrev pub settle_cause_at : PlanParts → List Entry → Option PlanTest → Option Cause
settle_cause_at plan entries None = None
settle_cause_at plan entries (Some t) = settle_cause plan t entries

-- the cause that the test with this number may be settled with
abbrev pub settle_cause_of_test : PlanParts → List Entry → ℕ → Option Cause
settle_cause_of_test plan entries number = settle_cause_at plan entries (test_at plan.tests number)
