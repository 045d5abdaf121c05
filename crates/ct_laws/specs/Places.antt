-- What a legal history says by the places of its entries. Source: CMake manual, cmake-properties(7), DEPENDS,
-- FIXTURES_REQUIRED; ctest(1), --repeat, --stop-on-failure. The order of entries is this project's choice.
use Rattle.std.specs.Prelude.{◌≡◌, ℕ, ◌<◌, true, false, Bool, List, ◌∷◌, ◌++◌, length, take, count_by, All, Contains, Option, Some, IsSome, IfSome, ◌==◌}
use Rattle.std.specs.List.{list_any}
use Rattle.ct_alloc.specs.declared.placement.Placement.{Placement}
use Rattle.ct_verdict.specs.declared.attempt.Seen.{Seen}
use Rattle.ct_verdict.specs.declared.verdict.Verdict.{Verdict}
use Rattle.ct_verdict.specs.declared.verdict.Verdict.TheVariants.{Passed}
use Rattle.ct_verdict.specs.Verdict.{is_failing_verdict}
use Rattle.ct_history.specs.declared.plan.PlanTest.{PlanTest}
use Rattle.ct_history.specs.declared.plan.PlanParts.{PlanParts}
use Rattle.ct_history.specs.declared.history.Entry.{Entry}
use Rattle.ct_history.specs.declared.history.Entry.TheVariants.{Start, End, Settle, Stop}
use Rattle.ct_history.specs.Plan.{test_at}
use Rattle.ct_history.specs.Verdicts.{verdict_in, verdict_of_test}

-- the entry starts an attempt of the test
abbrev pub starts_test : ℕ → Entry → Bool
starts_test test (Start t a w p) = t == test
starts_test test (End t a w seen) = false
starts_test test (Settle t cause) = false
starts_test test Stop = false

-- how many attempts of the test these entries start
abbrev pub started_attempts : ℕ → List Entry → ℕ
started_attempts test entries = count_by (starts_test test) entries

-- one of these entries ends the attempt of the test
pub record EndAttempt (test attempt : ℕ) (entries : List Entry) : Type 0 where
  pub worker : ℕ
  pub seen : Seen
  pub there : Contains entries (End test attempt worker seen)

-- these entries start the attempt of the test by the worker, and none behind that one ends it
pub record LeaveOpen (test attempt worker : ℕ) (entries : List Entry) : Type 0 where
  pub before : List Entry
  pub placement : Option Placement
  pub behind : List Entry
  pub started : entries ≡ before ++ Start test attempt worker placement ∷ behind
  pub unended : EndAttempt test attempt behind → ⊥

-- the test with this number is in the plan; after these entries each test that it waits for is final, and
-- each of its setups has passed
pub record HasWaited (plan : PlanParts) (number : ℕ) (entries : List Entry) : Type 0 where
  pub test : PlanTest
  pub is : test_at plan.tests number ≡ Some test
  pub final : All (λ other. IsSome (verdict_of_test plan entries other)) test.before
  pub passed : All (λ setup. verdict_of_test plan entries setup ≡ Some Passed) test.setups

-- the entry starts an attempt of the test, ends one, or settles the test
abbrev pub is_of_test : ℕ → Entry → Bool
is_of_test test (Start t a w p) = t == test
is_of_test test (End t a w seen) = t == test
is_of_test test (Settle t cause) = t == test
is_of_test test Stop = false

-- none of these entries is of a test that the test with this number waits for
abbrev pub LeaveAlone : PlanParts → ℕ → List Entry → Type 0
LeaveAlone plan number entries =
    IfSome (test_at plan.tests number)
    (λ t. All (λ other. list_any (is_of_test other) entries ≡ false) t.before)

-- after these entries some test of the plan has a verdict of the failing class
pub record SomeFailed (plan : PlanParts) (entries : List Entry) : Type 0 where
  pub test : PlanTest
  pub member : Contains plan.tests test
  pub verdict : Verdict
  pub is : verdict_in plan.repeat test entries ≡ Some verdict
  pub failing : is_failing_verdict verdict ≡ true

-- the last of these entries makes the first failure: some test has failed after them, and none after fewer
pub record EndInFirstFailure (plan : PlanParts) (entries : List Entry) : Type 0 where
  pub failed : SomeFailed plan entries
  pub first : (count : ℕ) → count < length entries → SomeFailed plan (take count entries) → ⊥

-- the first of these entries is a Stop
pub record BeginWithStop (entries : List Entry) : Type 0 where
  pub behind : List Entry
  pub is : entries ≡ Stop ∷ behind
