-- The capacities of a plan in their order, and the first of them with the greatest bound. This project's own.
use Rattle.std.specs.Prelude.{◌≡◌, ℕ, ◌+◌, ◌-◌, ◌^◌, ◌<◌, ◌≤◌, Bool, ◌&&◌, List, [], ◌∷◌, ◌++◌, All, filter, flat_map, map, min, nat_le, Option, Some, None, if◌then◌else◌}
use Rattle.std.specs.declared.cmp.Ordering.{Ordering}
use Rattle.std.specs.Ordering.{nat_cmp, ordering_then}
use Rattle.std.specs.List.{AllByRecursion, list_any}
use Rattle.std.specs.List.Sorted.{IsStrictlySortedBy}
use Rattle.std.specs.Cmp.Lexicographic.{slice_cmp}
use Rattle.ct_base.specs.declared.defs.Need.{Need}
use Rattle.ct_base.specs.declared.defs.Resource.{Resource}
use Rattle.ct_base.specs.Names.{is_among}
use Rattle.ct_history.specs.declared.plan.PlanTest.{PlanTest}
use Rattle.ct_history.specs.declared.plan.PlanParts.{PlanParts}
use Rattle.ct_history.specs.Plan.{test_at}
use Rattle.ct_times.specs.declared.bounds.Bound.{Bound}
use Rattle.ct_times.specs.declared.bounds.Capacity.{Capacity}
use Rattle.ct_times.specs.declared.bounds.Capacity.TheVariants.{Path, Processors, Wide, Lock, Slots}
use Rattle.ct_times.specs.Amounts.{blocks}
use Rattle.ct_times.specs.Bounds.{Done, bound_in, greatest, has_wide, heaviest, heaviest_before, own_weight, plan_resources, ran_beside, weighing}

-- the item is the first of these with the greatest value: those in front of it have less, and those behind
-- it at most as much
pub record IsFirstOf {A : Type 0} (value : A → ℕ) (items : List A) (told : A) : Type 0 where
  pub front : List A
  pub behind : List A
  pub items_are : items ≡ front ++ told ∷ behind
  pub less : AllByRecursion (λ (x : A). value x < value told) front
  pub most : AllByRecursion (λ (x : A). value x ≤ value told) behind

-- the item, if there is one, is the first of these with the greatest value; there is none of no items
abbrev pub IsFirstIfAny : {A : Type 0} → (A → ℕ) → List A → Option A → Type 0
IsFirstIfAny value items None = items ≡ []
IsFirstIfAny value items (Some told) = IsFirstOf value items told

-- these are the items of a list in order, each once
pub record AreSortedOnce {A : Type 0} (compare : A → A → Ordering) (all sorted : List A) : Type 0 where
  pub ascend : IsStrictlySortedBy compare sorted
  pub same : (p : A → Bool) → list_any p sorted ≡ list_any p all

-- the bound of a capacity, as it is held in 128 bits
abbrev pub held_bound : PlanParts → Done → Capacity → ℕ
held_bound plan done capacity = min (bound_in plan done capacity) (2 ^ 128 - 1)

-- the weight of a test by the weights of those before it, as it is held in 128 bits: what it weighs by
-- itself, and the greatest weight of those before it
abbrev pub weight_with : ℕ → Done → (ℕ → ℕ) → PlanTest → ℕ
weight_with level done weight t = min (own_weight level done t + greatest weight t.before) (2 ^ 128 - 1)

-- the test has its weight
abbrev pub IsWeighed : ℕ → Done → (ℕ → ℕ) → PlanTest → Type 0
IsWeighed level done weight t = weight t.number ≡ weight_with level done weight t

-- these are the weights of the tests of a plan
abbrev pub AreWeights : PlanParts → Done → (ℕ → ℕ) → Type 0
AreWeights plan done weight = All (IsWeighed plan.level done weight) plan.tests

-- these tests lead back from the first of them: behind each comes the heaviest of those before it, as long
-- as one of them weighs
abbrev pub GoesBack : (ℕ → ℕ) → List PlanTest → Option ℕ → List ℕ → Type 0
GoesBack weight tests next [] = next ≡ None
GoesBack weight tests next (n ∷ path) =
    (next ≡ Some n) × GoesBack weight tests (heaviest_before weight (test_at tests n)) path

-- the heaviest path of a plan, from its end back: the end is the heaviest test that weighs by itself
pub record IsHeaviestPath (plan : PlanParts) (done : Done) (path : List ℕ) : Type 0 where
  pub weight : ℕ → ℕ
  pub weights : AreWeights plan done weight
  pub goes_back : GoesBack weight plan.tests (heaviest weight (weighing plan.level done plan.tests)) path

-- the capacity is the heaviest path
abbrev pub IsOfHeaviestPath : PlanParts → Done → Capacity → Type 0
IsOfHeaviestPath plan done (Path path) = IsHeaviestPath plan done path.keys
IsOfHeaviestPath plan done _ = ⊥

-- the processors, if there are some
abbrev pub processor_capacities : PlanParts → List Capacity
processor_capacities plan = if nat_le 1 plan.level then Processors ∷ [] else []

-- the wide tests, if some that is not lone ran
abbrev pub wide_capacities : PlanParts → Done → List Capacity
wide_capacities plan done = if has_wide plan done then Wide ∷ [] else []

-- the locks that tests which ran and are not lone hold alone, as the tests name them
abbrev pub locks_held : PlanParts → Done → List (List ℕ)
locks_held plan done = flat_map (λ (t : PlanTest). t.locks) (filter (ran_beside plan.level done) plan.tests)

-- the test ran, is not lone and shares a lock
abbrev pub shares_beside : ℕ → Done → List ℕ → PlanTest → Bool
shares_beside level done lock t = ran_beside level done t && is_among lock t.shared

-- the numbers of the tests that ran, are not lone and share a lock
abbrev pub sharers : ℕ → Done → List ℕ → List PlanTest → List ℕ
sharers level done lock tests =
    map (λ (t : PlanTest). t.number) (filter (shares_beside level done lock) tests)

-- each lock has the first of the longest tests that share it
abbrev pub AreSharers : ℕ → Done → List PlanTest → (List ℕ → Option ℕ) → Type 0
AreSharers level done tests sharer =
    (lock : List ℕ) → IsFirstIfAny done.took (sharers level done lock tests) (sharer lock)

-- a lock, with the test of those sharing it that counts for it
abbrev pub lock_with : (List ℕ → Option ℕ) → List ℕ → Capacity
lock_with sharer lock = Lock lock (sharer lock)

-- the kind of a resource, with 1 slot
abbrev pub slot_of : Resource → List ℕ × ℕ
slot_of r = (r.kind, 1)

-- the kind of a need, and its slots
abbrev pub slots_of : Need → List ℕ × ℕ
slots_of n = (n.kind, n.slots)

-- the kinds with the counts of slots that may be blocks: 1 for each resource, and each need of a test
abbrev pub counts_asked : PlanParts → List (List ℕ × ℕ)
counts_asked plan =
    map slot_of (plan_resources plan) ++ flat_map (λ (t : PlanTest). map slots_of t.needs) plan.tests

-- a kind and a count, by the bytes of the kind and then by the count
abbrev pub compare_slots : List ℕ × ℕ → List ℕ × ℕ → Ordering
compare_slots one other = ordering_then (slice_cmp nat_cmp one.0 other.0) (nat_cmp one.1 other.1)

-- the resources hold a block of this kind and count
abbrev pub has_block : PlanParts → List ℕ × ℕ → Bool
has_block plan asked = nat_le 1 asked.1 && nat_le 1 (blocks asked.0 asked.1 (plan_resources plan))

-- the slots of a kind in blocks
abbrev pub slot_capacity : List ℕ × ℕ → Capacity
slot_capacity asked = Slots asked.0 asked.1

-- the capacities of a plan, in their order, with its heaviest path, its locks, which each have a sharer, and
-- the kinds and counts of its slots
abbrev pub capacities : PlanParts
    → Done → Capacity → List (List ℕ) → (List ℕ → Option ℕ) → List (List ℕ × ℕ) → List Capacity
capacities plan done path locks sharer asked =
    ((((path ∷ []) ++ processor_capacities plan) ++ wide_capacities plan done)
    ++ map (lock_with sharer) locks)
    ++ map slot_capacity (filter (has_block plan) asked)

-- the capacity is the first of all capacities of the plan with the greatest bound
pub record IsFirstOfAll (plan : PlanParts) (done : Done) (told : Capacity) : Type 0 where
  pub path : Capacity
  pub path_is : IsOfHeaviestPath plan done path
  pub locks : List (List ℕ)
  pub locks_are : AreSortedOnce (slice_cmp nat_cmp) (locks_held plan done) locks
  pub sharer : List ℕ → Option ℕ
  pub sharers_are : AreSharers plan.level done plan.tests sharer
  pub asked : List (List ℕ × ℕ)
  pub asked_are : AreSortedOnce compare_slots (counts_asked plan) asked
  pub first : IsFirstOf (held_bound plan done) (capacities plan done path locks sharer asked) told

-- the new bound covers these capacities behind those of the old one: if the old one is the first of some
-- capacities with the greatest bound, then the new one is the first of them and these
abbrev pub Covers : PlanParts → Done → Bound → List Capacity → Bound → Type 0
Covers plan done old more new =
    (front : List Capacity) → IsFirstOf (held_bound plan done) front old.capacity
    → IsFirstOf (held_bound plan done) (front ++ more) new.capacity

-- the new bound covers the locks of the plan in their order
pub record CoversLocks (plan : PlanParts) (done : Done) (old new : Bound) : Type 0 where
  pub locks : List (List ℕ)
  pub locks_are : AreSortedOnce (slice_cmp nat_cmp) (locks_held plan done) locks
  pub sharer : List ℕ → Option ℕ
  pub sharers_are : AreSharers plan.level done plan.tests sharer
  pub covers : Covers plan done old (map (lock_with sharer) locks) new

-- the new bound covers the slots of the plan in their order
pub record CoversSlots (plan : PlanParts) (done : Done) (old new : Bound) : Type 0 where
  pub asked : List (List ℕ × ℕ)
  pub asked_are : AreSortedOnce compare_slots (counts_asked plan) asked
  pub covers : Covers plan done old (map slot_capacity (filter (has_block plan) asked)) new
