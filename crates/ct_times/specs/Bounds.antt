-- The bound of a run: what its tests did, what they take of each capacity, and what that amounts to.
-- This project's own.
use Rattle.std.specs.Prelude.{◌≡◌, ℕ, ◌-◌, ◌*◌, ◌/◌, ◌%◌, ◌^◌, ◌<◌, ◌≤◌, Bool, true, not, ◌&&◌, ◌||◌, List, [], ◌∷◌, filter, find, map, max, min, sum_by, bytes_eq, nat_eq, nat_lt, is_some, Option, IsSome, unwrap_or, option_and_then, ◌==◌, if◌then◌else◌}
use Rattle.std.specs.List.{list_any}
use Rattle.indexmap.specs.IndexMap.{IndexMap, get}
use Rattle.ct_base.specs.declared.defs.Need.{Need}
use Rattle.ct_base.specs.declared.defs.Resource.{Resource}
use Rattle.ct_base.specs.Names.{is_among}
use Rattle.ct_history.specs.declared.plan.PlanTest.{PlanTest}
use Rattle.ct_history.specs.declared.plan.PlanParts.{PlanParts}
use Rattle.ct_history.specs.declared.history.Entry.{Entry}
use Rattle.ct_history.specs.Legal.{is_legal}
use Rattle.ct_times.specs.declared.bounds.Bound.{Bound}
use Rattle.ct_times.specs.declared.bounds.Capacity.{Capacity}
use Rattle.ct_times.specs.declared.bounds.Capacity.TheVariants.{Path, Processors, Wide, Lock, Slots}
use Rattle.ct_times.specs.declared.share.Share.{Share}
use Rattle.ct_times.specs.Times.{length_of}
use Rattle.ct_times.specs.Capacity.{HaveSameWork, over_up, ran, work}
use Rattle.ct_times.specs.Amounts.{blocks, is_lone, is_path, lock_amount, path_amount, processor_amount, slot_amount, wide_amount}
use Rattle.ct_times.specs.Works.{kept_at}

-- what the tests of a run did: how long each took, in microseconds, and whether it ran
pub record Done : Type 0 where
  pub took : ℕ → ℕ
  pub has_run : ℕ → Bool

-- what the tests did in a history
abbrev pub done_in : List Entry → Done
done_in entries = record { took = λ test. work test entries; has_run = λ test. ran entries test }

-- the map has a test
abbrev pub has_test : {S : Type 0} → IndexMap ℕ ℕ S → ℕ → Bool
has_test works test = is_some (get nat_eq works test)

-- what the tests did by a map of their works, which has those that ran
abbrev pub done_by : {S : Type 0} → IndexMap ℕ ℕ S → Done
done_by works = record { took = λ test. kept_at works test; has_run = λ test. has_test works test }

-- the map has the tests that ran
abbrev pub HasThoseThatRan : {S : Type 0} → IndexMap ℕ ℕ S → List Entry → Type 0
HasThoseThatRan works entries = (test : ℕ) → has_test works test ≡ ran entries test

-- the test ran, and is not lone
abbrev pub ran_beside : ℕ → Done → PlanTest → Bool
ran_beside level done t = done.has_run t.number && not (is_lone level t)

-- what a test takes of a capacity beside others
abbrev pub amount_taken : ℕ → Capacity → PlanTest → ℕ
amount_taken level (Path path) t = path_amount path.keys t
amount_taken level Processors t = processor_amount t
amount_taken level Wide t = wide_amount level t
amount_taken level (Lock name sharer) t = lock_amount name (unwrap_or sharer 0) t
amount_taken level (Slots kind block) t = slot_amount kind block t

-- the test takes more than half of the processors
abbrev pub is_wide : ℕ → PlanTest → Bool
is_wide level t = nat_lt level (2 * t.processors)

-- the test holds the lock alone, or is the one that shares it
abbrev pub takes_lock : List ℕ → Option ℕ → PlanTest → Bool
takes_lock lock sharer t = is_among lock t.locks || t.number == unwrap_or sharer 0 && is_among lock t.shared

-- the blocks of a kind that these needs take
abbrev pub blocks_taken : List ℕ → ℕ → List Need → ℕ
blocks_taken kind block needs =
    sum_by (λ (n : Need). n.slots / block) (filter (λ (n : Need). bytes_eq n.kind kind) needs)

-- the blocks of a kind that a resource holds
abbrev pub blocks_held : List ℕ → ℕ → Resource → ℕ
blocks_held kind block r = if bytes_eq r.kind kind then r.slots / block else 0

-- the blocks of a kind that a need takes
abbrev pub blocks_needed : List ℕ → ℕ → Need → ℕ
blocks_needed kind block n = if bytes_eq n.kind kind then n.slots / block else 0

-- the amount of a test: nothing where it did not run, the whole size where it is lone, else what it takes,
-- and never more than the size
abbrev pub amount_by : ℕ → Done → Capacity → ℕ → PlanTest → ℕ
amount_by level done capacity size t =
    if done.has_run t.number
    then (if is_lone level t then size else min (amount_taken level capacity t) size)
    else 0

-- the resources of a plan, none without any
abbrev pub plan_resources : PlanParts → List Resource
plan_resources plan = unwrap_or plan.resources []

-- the size of a capacity
abbrev pub size_by : PlanParts → Capacity → ℕ
size_by plan (Path path) = 1
size_by plan Processors = plan.level
size_by plan Wide = 1
size_by plan (Lock name sharer) = 1
size_by plan (Slots kind block) = blocks kind block (plan_resources plan)

-- the work of each test times its amount, together
abbrev pub work_by : ℕ → Done → Capacity → ℕ → List PlanTest → ℕ
work_by level done capacity size tests =
    sum_by (λ (t : PlanTest). done.took t.number * amount_by level done capacity size t) tests

-- the bound of a capacity
abbrev pub bound_in : PlanParts → Done → Capacity → ℕ
bound_in plan done capacity =
    over_up (work_by plan.level done capacity (size_by plan capacity) plan.tests) (size_by plan capacity)

-- some test that ran and is not lone takes more than half of the processors
abbrev pub has_wide : PlanParts → Done → Bool
has_wide plan done =
    list_any (λ (t : PlanTest). ran_beside plan.level done t && is_wide plan.level t) plan.tests

-- it is a capacity of the plan: the tests of a path come one behind the other, there are processors, some
-- wide test ran that is not lone, or there are resources with such a block
abbrev pub IsOf : PlanParts → Done → Capacity → Type 0
IsOf plan done (Path path) = is_path plan.tests path.keys ≡ true
IsOf plan done Processors = 1 ≤ plan.level
IsOf plan done Wide = has_wide plan done ≡ true
IsOf plan done (Lock name sharer) = Unit {0}
IsOf plan done (Slots kind block) =
    IsSome plan.resources × (1 ≤ block) × (1 ≤ blocks kind block (plan_resources plan))

-- the bound is of a capacity of the plan, and has its size and its bound, which is held in 128 bits
pub record IsMeasured (plan : PlanParts) (done : Done) (bound : Bound) : Type 0 where
  pub capacity : IsOf plan done bound.capacity
  pub size : bound.size ≡ size_by plan bound.capacity
  pub micros : bound.micros ≡ min (bound_in plan done bound.capacity) (2 ^ 128 - 1)

-- the bound is not below that of a capacity, which is held in 128 bits
abbrev pub IsNotBelow : PlanParts → Done → Bound → Capacity → Type 0
IsNotBelow plan done bound capacity = min (bound_in plan done capacity) (2 ^ 128 - 1) ≤ bound.micros

-- the bound is not below that of the processors, if there are some
abbrev pub CoversProcessors : PlanParts → Done → Bound → Type 0
CoversProcessors plan done bound = 1 ≤ plan.level → IsNotBelow plan done bound Processors

-- the bound is not below that of the wide tests, if some that is not lone ran
abbrev pub CoversWide : PlanParts → Done → Bound → Type 0
CoversWide plan done bound = has_wide plan done ≡ true → IsNotBelow plan done bound Wide

-- the greater of two bounds, the first one where they are equal
abbrev pub greater_of : Bound → Bound → Bound
greater_of one other = if nat_lt one.micros other.micros then other else one

-- a sum is shared by a size: how often the size fits into it, which is held in 128 bits, and what is left
pub record IsShare (share : Share) (size sum : ℕ) : Type 0 where
  pub whole : share.whole ≡ min (sum / size) (2 ^ 128 - 1)
  pub rest : share.rest ≡ sum % size

-- the greatest weight of these tests, 0 without one
abbrev pub greatest : (ℕ → ℕ) → List ℕ → ℕ
greatest weight [] = 0
greatest weight (n ∷ ns) = max (weight n) (greatest weight ns)

-- the first of these tests that has their greatest weight, if that is above 0
abbrev pub heaviest : (ℕ → ℕ) → List ℕ → Option ℕ
heaviest weight numbers = find (λ n. nat_lt 0 (weight n) && weight n == greatest weight numbers) numbers

-- the heaviest test of those before a test that was looked up
abbrev pub heaviest_before : (ℕ → ℕ) → Option PlanTest → Option ℕ
heaviest_before weight o = option_and_then (λ (t : PlanTest). heaviest weight t.before) o

-- what a test weighs by itself on a path: its work, if it ran and is not lone
abbrev pub own_weight : ℕ → Done → PlanTest → ℕ
own_weight level done t = if ran_beside level done t then done.took t.number else 0

-- the numbers of the tests that weigh by themselves
abbrev pub weighing : ℕ → Done → List PlanTest → List ℕ
weighing level done tests =
    map (λ (t : PlanTest). t.number) (filter (λ (t : PlanTest). nat_lt 0 (own_weight level done t)) tests)

-- no legal history with the same work of each test is shorter than the bound
abbrev pub NoneIsShorter : PlanParts → List Entry → Bound → Type 0
NoneIsShorter plan recorded bound =
    (other : List Entry) → is_legal plan other ≡ true → HaveSameWork plan recorded other
    → bound.micros ≤ length_of other

-- the bound is exactly that of its capacity, where the recorded history is legal, and its length is a number
-- of 128 bits
abbrev pub IsExact : PlanParts → List Entry → Bound → Type 0
IsExact plan recorded bound =
    is_legal plan recorded ≡ true → length_of recorded < 2 ^ 128
    → bound.micros ≡ bound_in plan (done_in recorded) bound.capacity
