-- What a run does next, by its history. The order of the cases is this project's choice.
use Rattle.std.specs.Prelude.{◌≡◌, ◌⊎◌, ℕ, ◌+◌, ◌<◌, Bool, true, false, List, ◌∷◌, ◌++◌, length, All, Option, Some, None}
use Rattle.ct_alloc.specs.declared.placement.Placement.{Placement}
use Rattle.ct_verdict.specs.declared.verdict.Cause.{Cause}
use Rattle.ct_history.specs.declared.plan.PlanTest.{PlanTest}
use Rattle.ct_history.specs.declared.plan.PlanParts.{PlanParts}
use Rattle.ct_history.specs.declared.history.Entry.{Entry}
use Rattle.ct_history.specs.Plan.{test_at}
use Rattle.ct_history.specs.History.{attempts_of}
use Rattle.ct_history.specs.Verdicts.{are_all_final}
use Rattle.ct_history.specs.Rules.{CanStart, is_idle, may_start_at, may_start_if_placed, settle_cause_of_test}
use Rattle.ct_core.specs.declared.choice.Startable.{Startable}
use Rattle.ct_core.specs.declared.choice.Choice.{Choice}
use Rattle.ct_core.specs.declared.choice.Choice.TheVariants.{Done, Settle, Start, Wait}

-- the number of the next attempt of the test that was looked
-- up: one more than its Ends so far; 1 if there is no test
abbrev pub attempt_after : List Entry → Option PlanTest → ℕ
attempt_after entries None = 1
attempt_after entries (Some t) = length (attempts_of t.number t.rules entries) + 1

-- no test may be settled
abbrev pub NoneSettles : PlanParts → List Entry → Type 0
NoneSettles plan entries = (number : ℕ) → settle_cause_of_test plan entries number ≡ None

-- none of these tests may start, whatever its placement
abbrev pub NoneStarts : PlanParts → List Entry → List ℕ → Type 0
NoneStarts plan entries numbers = All (λ number. CanStart plan entries number → ⊥) numbers

-- the test may be settled with this cause, and no test with a lower number may be settled
pub record IsLeastToSettle (plan : PlanParts) (entries : List Entry) (number : ℕ) (cause : Cause)
    : Type 0 where
  pub may : settle_cause_of_test plan entries number ≡ Some cause
  pub least : (n : ℕ) → n < number → settle_cause_of_test plan entries n ≡ None

-- the test may start with this placement, and no test in front of it in the queue may start
pub record IsFirstToStart
    (plan : PlanParts) (entries : List Entry) (number : ℕ) (placement : Option Placement) : Type 0 where
  pub earlier : List ℕ
  pub later : List ℕ
  pub queued : plan.queue ≡ earlier ++ number ∷ later
  pub may : may_start_at plan entries placement (test_at plan.tests number) ≡ true
  pub first : NoneStarts plan entries earlier

-- `start` is the next attempt of the test, with a placement by which the test may start
pub record IsStartOf (plan : PlanParts) (entries : List Entry) (number : ℕ) (start : Startable) : Type 0 where
  pub test : start.test ≡ number
  pub may : may_start_at plan entries start.placement (test_at plan.tests number) ≡ true
  pub next : start.attempt ≡ attempt_after entries (test_at plan.tests number)

-- `start` is the next attempt of the first test in the
-- queue that may start, with a placement by which it may
pub record IsStartable (plan : PlanParts) (entries : List Entry) (start : Startable) : Type 0 where
  pub first : IsFirstToStart plan entries start.test start.placement
  pub next : start.attempt ≡ attempt_after entries (test_at plan.tests start.test)

-- some test is not final, none may be settled, and none in the queue may start
pub record IsStuck (plan : PlanParts) (entries : List Entry) : Type 0 where
  pub unfinished : are_all_final plan entries ≡ false
  pub unsettled : NoneSettles plan entries
  pub unstarted : NoneStarts plan entries plan.queue

-- some test may be settled
pub record SomeSettles (plan : PlanParts) (entries : List Entry) : Type 0 where
  pub number : ℕ
  pub cause : Cause
  pub may : settle_cause_of_test plan entries number ≡ Some cause

-- some test may start, with some placement
pub record SomeStarts (plan : PlanParts) (entries : List Entry) : Type 0 where
  pub number : ℕ
  pub can : CanStart plan entries number

-- progress: while nothing is open and some test is not final, some test may be settled or may start
abbrev pub HasProgress : PlanParts → List Entry → Type 0
HasProgress plan entries =
    is_idle entries ≡ true → are_all_final plan entries ≡ false
    → SomeSettles plan entries ⊎ SomeStarts plan entries

-- the test that was looked up is there, and may start as soon as its needs are met
abbrev pub may_start_if_placed_at : PlanParts → List Entry → Option PlanTest → Bool
may_start_if_placed_at plan entries None = false
may_start_if_placed_at plan entries (Some t) = may_start_if_placed plan t entries

-- some test of the queue may start as soon as its needs are met, and no test in front of it may start
pub record SomeIsToPlace (plan : PlanParts) (entries : List Entry) : Type 0 where
  pub earlier : List ℕ
  pub number : ℕ
  pub later : List ℕ
  pub queued : plan.queue ≡ earlier ++ number ∷ later
  pub may : may_start_if_placed_at plan entries (test_at plan.tests number) ≡ true
  pub first : NoneStarts plan entries earlier

-- what comes next takes memory: some test is not final. Either a test may be
-- settled; or none may, and some test may start as soon as its needs are met.
pub record TakesMemory (plan : PlanParts) (entries : List Entry) : Type 0 where
  pub unfinished : are_all_final plan entries ≡ false
  pub goes_on : SomeSettles plan entries ⊎ (NoneSettles plan entries × SomeIsToPlace plan entries)

-- what each choice says: every test is final; the least test may be settled with this cause; no test
-- may be settled, and this is the next start; or nothing can be done while some attempt is open
abbrev pub IsChoice : PlanParts → List Entry → Choice → Type 0
IsChoice plan entries Done = are_all_final plan entries ≡ true
IsChoice plan entries (Settle number cause) = IsLeastToSettle plan entries number cause
IsChoice plan entries (Start start) = NoneSettles plan entries × IsStartable plan entries start
IsChoice plan entries Wait = IsStuck plan entries × (is_idle entries ≡ false)
