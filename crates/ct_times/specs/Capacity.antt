-- What no order of a run's programs can gain: work, capacities and their bounds. This project's own.
use Rattle.std.specs.Prelude.{◌≡◌, ℕ, ◌+◌, ◌-◌, ◌*◌, ◌/◌, ◌≤◌, Bool, true, false, List, All, sum_by, ◌==◌, if◌then◌else◌}
use Rattle.std.specs.List.{list_any}
use Rattle.ct_history.specs.declared.plan.PlanTest.{PlanTest}
use Rattle.ct_history.specs.declared.plan.PlanParts.{PlanParts}
use Rattle.ct_history.specs.declared.history.Entry.{Entry}
use Rattle.ct_history.specs.declared.history.Entry.TheVariants.{Start, End, Settle, Stop}
use Rattle.ct_history.specs.History.{Running, open_starts}
use Rattle.ct_history.specs.Legal.{is_allowed_so_far}

-- how long the attempt of the test took that the entry ends, in microseconds; 0 where it ends none
abbrev pub work_by : ℕ → Entry → ℕ
work_by test (Start t a w p) = 0
work_by test (End t a w seen) = if t == test then seen.micros else 0
work_by test (Settle t cause) = 0
work_by test Stop = 0

-- the work of a test: how long all its attempts took together, in microseconds
abbrev pub work : ℕ → List Entry → ℕ
work test entries = sum_by (work_by test) entries

-- the entry ends an attempt of the test
abbrev pub is_end_of_test : ℕ → Entry → Bool
is_end_of_test test (Start t a w p) = false
is_end_of_test test (End t a w seen) = t == test
is_end_of_test test (Settle t cause) = false
is_end_of_test test Stop = false

-- the test ran: an attempt of it has ended
abbrev pub ran : List Entry → ℕ → Bool
ran entries test = list_any (is_end_of_test test) entries

-- each test of the plan has the same work in both histories
abbrev pub HaveSameWork : PlanParts → List Entry → List Entry → Type 0
HaveSameWork plan one other = All (λ (t : PlanTest). work t.number one ≡ work t.number other) plan.tests

-- the amounts of the open tests together, where each test has an amount
abbrev pub amount_open : (ℕ → ℕ) → List Entry → ℕ
amount_open amount entries = sum_by (λ (r : Running). amount r.test) (open_starts entries)

-- a size and an amount for each test, such that the open tests never take more than the size: not behind
-- any history of the plan that is allowed so far, and so not behind any beginning of a legal history
pub record IsCapacity (plan : PlanParts) (size : ℕ) (amount : ℕ → ℕ) : Type 0 where
  pub size_is_some : 1 ≤ size
  pub holds : (entries : List Entry) → is_allowed_so_far plan entries ≡ true
      → amount_open amount entries ≤ size

-- a number over another one, rounded up
abbrev pub over_up : ℕ → ℕ → ℕ
over_up number size = (number + (size - 1)) / size

-- the bound of a capacity: the work of each test times its amount, together, over the size, rounded up
abbrev pub bound : PlanParts → ℕ → (ℕ → ℕ) → List Entry → ℕ
bound plan size amount entries =
    over_up (sum_by (λ (t : PlanTest). work t.number entries * amount t.number) plan.tests) size
