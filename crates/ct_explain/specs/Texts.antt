-- The texts of an explanation: seconds, what a start waited for, why a line is refused, and the capacities.
-- This project's own.
use Rattle.std.specs.Prelude.{ℕ, ◌+◌, ◌/◌, ◌%◌, List, [], ◌∷◌, ◌++◌, codes, decimal, slice_get, Option, Some, None, nat_lt, option_and_then, if◌then◌else◌}
use Rattle.ct_base.specs.declared.defs.Resource.{Resource}
use Rattle.ct_history.specs.declared.plan.PlanParts.{PlanParts}
use Rattle.ct_history.specs.Plan.{test_at}
use Rattle.ct_report.specs.Report.{name_of}
use Rattle.ct_times.specs.declared.bounds.Capacity.{Capacity}
use Rattle.ct_times.specs.declared.bounds.Capacity.TheVariants as Takes
use Rattle.ct_explain.specs.declared.wait.Wait.{Wait}
use Rattle.ct_explain.specs.declared.wait.Wait.TheVariants.{Attempt, Predecessor, Serial, Processors, Lock, Resource as OfResource, Worker, Nothing}
use Rattle.ct_explain.specs.declared.why.Why.{Why}
use Rattle.ct_explain.specs.declared.why.Why.TheVariants.{NoLine, StopIsDue, NoStopIsDue, NoTest, IsFinal, Waited, MayNotStart, NoSuchStart, MayNotBeSettled, IsNotComplete, NotThisManyEntries}

-- the six digits of a number below a million
abbrev pub micros_digits : ℕ → List ℕ
micros_digits n =
    (48 + n / 100000)
    ∷ (48 + n / 10000 % 10)
    ∷ (48 + n / 1000 % 10)
    ∷ (48 + n / 100 % 10)
    ∷ (48 + n / 10 % 10)
    ∷ (48 + n % 10)
    ∷ []

-- microseconds as whole seconds, a point, and six digits
abbrev pub micros_text : ℕ → List ℕ
micros_text micros = decimal (micros / 1000000) ++ codes "." ++ micros_digits (micros % 1000000)

-- these bytes, and then a number
abbrev pub numbered : List ℕ → ℕ → List ℕ
numbered front number = front ++ decimal number

-- the resource at a place of the plan's list, counted from 0
abbrev pub resource_at : Option (List Resource) → ℕ → Option Resource
resource_at resources place = option_and_then (λ (rs : List Resource). slice_get rs place) resources

-- the type and the id of a resource
abbrev pub resource_text : Option Resource → List ℕ
resource_text None = codes "resource "
resource_text (Some r) = codes "resource " ++ r.kind ++ codes " " ++ r.id

-- the name of the test with this number
abbrev pub name_at : PlanParts → ℕ → List ℕ
name_at plan number = name_of (test_at plan.tests number)

-- the number and the name of a test
abbrev pub test_text : ℕ → List ℕ → List ℕ
test_text number name = numbered (codes "Test #") number ++ codes ": " ++ name

-- how many processors there are
abbrev pub level_text : ℕ → List ℕ
level_text level = numbered (codes " of ") level ++ codes " in use"

-- what a start waited for
abbrev pub wait_text : PlanParts → Wait → List ℕ
wait_text plan (Attempt attempt) = numbered (codes "its attempt ") attempt
wait_text plan (Predecessor test) = numbered (codes "test #") test
wait_text plan (Serial test) = numbered (codes "serial test #") test
wait_text plan (Processors used) =
    codes "processors: " ++ decimal used ++ level_text plan.level
wait_text plan (Lock name test) = codes "lock " ++ name ++ codes " of test #" ++ decimal test
wait_text plan (OfResource place) = resource_text (resource_at plan.resources place)
wait_text plan (Worker worker) = numbered (codes "worker ") worker
wait_text plan Nothing = codes "nothing"

-- why a line is refused
abbrev pub why_text : PlanParts → Why → List ℕ
why_text plan NoLine = codes "not a line of a journal"
why_text plan StopIsDue = codes "a stop is due"
why_text plan NoStopIsDue = codes "no stop is due"
why_text plan (NoTest test) = numbered (codes "no test ") test
why_text plan (IsFinal test) = codes "test " ++ decimal test ++ codes " is final"
why_text plan (Waited test wait) =
    codes "test " ++ decimal test ++ codes " waited for " ++ wait_text plan wait
why_text plan (MayNotStart test) = codes "test " ++ decimal test ++ codes " may not start"
why_text plan NoSuchStart = codes "no such start is open"
why_text plan (MayNotBeSettled test) = codes "test " ++ decimal test ++ codes " may not be settled so"
why_text plan IsNotComplete = codes "the run is not complete"
why_text plan NotThisManyEntries = codes "not this many entries"

-- how many slots a block has, where it has more than one
abbrev pub block_text : ℕ → List ℕ
block_text block = if nat_lt 1 block then numbered (codes " times ") block else []

-- this many blocks of slots of a kind
abbrev pub slots_text : ℕ → List ℕ → ℕ → List ℕ
slots_text size kind block = decimal size ++ block_text block ++ codes " slots of " ++ kind

-- a capacity of this size
abbrev pub capacity_text : ℕ → Capacity → List ℕ
capacity_text size (Takes.Path tests) = codes "tests one after the other"
capacity_text size Takes.Processors = decimal size ++ codes " processors"
capacity_text size Takes.Wide = codes "tests of more than half of the processors"
capacity_text size (Takes.Lock name sharer) = codes "lock " ++ name
capacity_text size (Takes.Slots kind block) = slots_text size kind block
