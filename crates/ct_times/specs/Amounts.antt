-- The capacities of a plan by what its tests take: a path, processors, wide tests, a lock, slots in blocks.
-- Source: CMake manual, cmake-properties(7), DEPENDS, FIXTURES_REQUIRED, PROCESSORS, RESOURCE_LOCK,
-- RUN_SERIAL; ctest(1), Resource Allocation. That they bound a run is this project's own.
use Rattle.std.specs.Prelude.{ℕ, ◌*◌, ◌/◌, Bool, true, false, ◌&&◌, ◌||◌, List, [], ◌∷◌, filter, sum_by, bytes_eq, nat_le, nat_lt, Option, Some, None, ◌==◌, if◌then◌else◌}
use Rattle.std.specs.List.{list_any}
use Rattle.ct_base.specs.declared.defs.Resource.{Resource}
use Rattle.ct_base.specs.declared.defs.Need.{Need}
use Rattle.ct_base.specs.Names.{is_among}
use Rattle.ct_history.specs.declared.plan.PlanTest.{PlanTest}
use Rattle.ct_history.specs.declared.plan.PlanParts.{PlanParts}
use Rattle.ct_history.specs.declared.history.Entry.{Entry}
use Rattle.ct_history.specs.Plan.{test_at}
use Rattle.ct_times.specs.Capacity.{ran}

-- the test is lone: it is serial, or it takes all processors of the level
abbrev pub is_lone : ℕ → PlanTest → Bool
is_lone level t = t.serial || nat_le level t.processors

-- the amount of the test that was looked up: the whole size for a lone test, else what `other` says
abbrev pub amount_at : ℕ → ℕ → (PlanTest → ℕ) → Option PlanTest → ℕ
amount_at level size other None = 0
amount_at level size other (Some t) = if is_lone level t then size else other t

-- the amount of a test by its number: 0 where it did not run, the whole size where it is lone, else what
-- `other` says
abbrev pub amount_of : PlanParts → List Entry → ℕ → (PlanTest → ℕ) → ℕ → ℕ
amount_of plan recorded size other test =
    if ran recorded test then amount_at plan.level size other (test_at plan.tests test) else 0

-- 1 where it holds, else 0
abbrev pub amount_if : Bool → ℕ
amount_if b = if b then 1 else 0

-- the number is one of these numbers
abbrev pub has_number : List ℕ → ℕ → Bool
has_number numbers number = list_any (λ n. n == number) numbers

-- the test that was looked up is there, and has this number in `before`
abbrev pub comes_behind : ℕ → Option PlanTest → Bool
comes_behind number None = false
comes_behind number (Some t) = has_number t.before number

-- these tests are a path, from its end back: each has the next one in `before`
abbrev pub is_path : List PlanTest → List ℕ → Bool
is_path tests [] = true
is_path tests (n ∷ []) = true
is_path tests (n ∷ m ∷ path) = comes_behind m (test_at tests n) && is_path tests (m ∷ path)

-- path: 1 on it
abbrev pub path_amount : List ℕ → PlanTest → ℕ
path_amount path t = amount_if (has_number path t.number)

-- processors: those of the test
abbrev pub processor_amount : PlanTest → ℕ
processor_amount t = t.processors

-- wide tests: 1 where twice its processors are above the level
abbrev pub wide_amount : ℕ → PlanTest → ℕ
wide_amount level t = amount_if (nat_lt level (2 * t.processors))

-- a lock: 1 where the test holds it alone, and for one test that shares it
abbrev pub lock_amount : List ℕ → ℕ → PlanTest → ℕ
lock_amount lock sharer t = amount_if (is_among lock t.locks || t.number == sharer && is_among lock t.shared)

-- the blocks of this many slots that fit into the slots of the resources of a kind
abbrev pub blocks : List ℕ → ℕ → List Resource → ℕ
blocks kind block resources =
    sum_by (λ (r : Resource). r.slots / block) (filter (λ (r : Resource). bytes_eq r.kind kind) resources)

-- slots of a kind in blocks: the blocks that its needs of that kind take
abbrev pub slot_amount : List ℕ → ℕ → PlanTest → ℕ
slot_amount kind block t =
    sum_by (λ (n : Need). n.slots / block) (filter (λ (n : Need). bytes_eq n.kind kind) t.needs)
