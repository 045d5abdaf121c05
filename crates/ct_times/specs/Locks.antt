-- What the code keeps of each lock. This project's own.
use Rattle.std.specs.Prelude.{◌≡◌, ℕ, ◌+◌, ◌-◌, ◌^◌, ◌<◌, Bool, true, not, ◌&&◌, List, [], min, sum_by, bytes_eq, nat_le, nat_lt, Option, Some, None, IfSome, unwrap_or, ◌==◌, if◌then◌else◌}
use Rattle.std.specs.Borrow.{Bor}
use Rattle.std.specs.List.{AllByRecursion}
use Rattle.indexmap.specs.IndexMap.{IndexMap, get_by}
use Rattle.ct_base.specs.Names.{is_among}
use Rattle.ct_history.specs.declared.plan.PlanTest.{PlanTest}
use Rattle.ct_times.specs.declared.locks.LockWork.{LockWork}
use Rattle.ct_times.specs.Amounts.{is_lone}
use Rattle.ct_times.specs.Bounds.{Done, ran_beside}
use Rattle.ct_times.specs.First.{IsFirstIfAny, sharers}

-- a lock of no work
abbrev pub no_work : LockWork
no_work = record { alone = 0; holder = 0; sharer = 0; shared = 0; added = 0 }

-- what a map has of a lock
abbrev pub lock_at : {S : Type 0} → IndexMap (Bor (List ℕ)) LockWork S → List ℕ → LockWork
lock_at locks lock = unwrap_or (get_by (λ (k : Bor (List ℕ)). bytes_eq lock k.now) locks) no_work

-- the work of a lock, with that of a test that holds it alone
abbrev pub held_new : LockWork → ℕ → ℕ → LockWork
held_new lock test work = record lock { alone = min (lock.alone + work) (2 ^ 128 - 1); holder = test }

-- the same, unless the test is the last one that was added
abbrev pub held_with : LockWork → ℕ → ℕ → LockWork
held_with lock test work = if lock.holder == test then lock else held_new lock test work

-- the work of a lock, with a test as the one that shares it
abbrev pub shared_new : LockWork → ℕ → ℕ → LockWork
shared_new lock test work =
    record lock { sharer = test; shared = work; added = if lock.holder == test then 0 else work }

-- the same, if the work of the test is the greatest so far
abbrev pub shared_with : LockWork → ℕ → ℕ → LockWork
shared_with lock test work =
    if not (lock.sharer == 0) && nat_le work lock.shared then lock else shared_new lock test work

-- the work of a lock, with a test that may hold it alone
abbrev pub held_if : Bool → LockWork → ℕ → ℕ → LockWork
held_if holds lock test work = if holds then held_with lock test work else lock

-- the work of a lock, with a test that may share it
abbrev pub shared_if : Bool → LockWork → ℕ → ℕ → LockWork
shared_if shares lock test work = if shares then shared_with lock test work else lock

-- the work of a lock, with what a test takes of it
abbrev pub lock_with_test : ℕ → Done → List ℕ → PlanTest → LockWork → LockWork
lock_with_test level done lock t work =
    if ran_beside level done t
    then shared_if (is_among lock t.shared)
    (held_if (is_among lock t.locks) work t.number (done.took t.number)) t.number (done.took t.number)
    else work

-- the test of those sharing a lock that counts for it
abbrev pub sharer_in : LockWork → Option ℕ
sharer_in work = if work.sharer == 0 then None else Some work.sharer

-- what a test does alone in the plan, if it ran
abbrev pub lone_of : ℕ → Done → PlanTest → ℕ
lone_of level done t = if done.has_run t.number && is_lone level t then done.took t.number else 0

-- the work of the lone tests
abbrev pub lone_work : ℕ → Done → List PlanTest → ℕ
lone_work level done tests = sum_by (lone_of level done) tests

-- what a test does that holds a lock alone
abbrev pub alone_of : ℕ → Done → List ℕ → PlanTest → ℕ
alone_of level done lock t =
    if ran_beside level done t && is_among lock t.locks then done.took t.number else 0

-- what a test adds that shares a lock, by its number, and does not hold it alone
abbrev pub added_of : ℕ → Done → List ℕ → ℕ → PlanTest → ℕ
added_of level done lock sharer t =
    if ran_beside level done t
    && (not (is_among lock t.locks) && (t.number == sharer && is_among lock t.shared))
    then done.took t.number
    else 0

-- all tests have lesser numbers
abbrev pub AreBelow : ℕ → List PlanTest → Type 0
AreBelow number tests = AllByRecursion (λ (t : PlanTest). t.number < number) tests

-- it is the work of a lock, by these tests
pub record IsLockWork (level : ℕ) (done : Done) (lock : List ℕ) (tests : List PlanTest) (work : LockWork)
    : Type 0 where
  pub alone : work.alone ≡ min (sum_by (alone_of level done lock) tests) (2 ^ 128 - 1)
  pub added : work.added ≡ sum_by (added_of level done lock work.sharer) tests
  pub sharer : IsFirstIfAny done.took (sharers level done lock tests) (sharer_in work)
  pub shared : IfSome (sharer_in work) (λ n. work.shared ≡ done.took n)
  pub holder_is_below : (number : ℕ) → 0 < number → AreBelow number tests → work.holder < number
  pub sharer_is_below : (number : ℕ) → 0 < number → AreBelow number tests → work.sharer < number

-- how long a lock keeps the tests, beside the work of lone tests; held in 128 bits
abbrev pub lock_micros : ℕ → LockWork → ℕ
lock_micros lone work = min (min (lone + work.alone) (2 ^ 128 - 1) + work.added) (2 ^ 128 - 1)

-- the number is above the other one, if there is another one
abbrev pub is_above : ℕ → Option ℕ → Bool
is_above number None = true
is_above number (Some other) = nat_lt other number

-- the name, if there is one, is the first of these with the greatest value, and its value is known
abbrev pub IsLongestSoFar : (List ℕ → ℕ) → List (List ℕ) → Option (Bor (List ℕ)) → Option ℕ → Type 0
IsLongestSoFar value names None None = names ≡ []
IsLongestSoFar value names (Some name) (Some most) =
    IsFirstIfAny value names (Some name.now) × (most ≡ value name.now)
IsLongestSoFar value names (Some name) None = ⊥
IsLongestSoFar value names None (Some most) = ⊥
