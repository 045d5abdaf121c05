-- The verdict that each test of a plan is meant to have, for each order of the tests and all workers.
-- Source: CMake manual, ctest(1), --repeat; cmake-properties(7), DISABLED, FIXTURES_REQUIRED. That a test
-- with a fixed cause is settled behind its setups is this project's choice.
use Rattle.std.specs.Prelude.{◌≡◌, ◌⊎◌, ℕ, zero, suc, Bool, true, false, not, List, [], ◌∷◌, length, map, find, Option, Some, None, option_map, ⊤, if◌then◌else◌}
use Rattle.std.specs.List.{list_any, range_with_len}
use Rattle.ct_verdict.specs.declared.attempt.Seen.{Seen}
use Rattle.ct_verdict.specs.declared.repeat.Repeat.{Repeat}
use Rattle.ct_verdict.specs.declared.rules.Rules.{Rules}
use Rattle.ct_verdict.specs.declared.verdict.Cause.{Cause}
use Rattle.ct_verdict.specs.declared.verdict.Cause.TheVariants.{Stopped}
use Rattle.ct_verdict.specs.declared.verdict.Verdict.{Verdict}
use Rattle.ct_verdict.specs.declared.verdict.Verdict.TheVariants.{NotRun, Disabled}
use Rattle.ct_verdict.specs.Verdict.{verdict_of}
use Rattle.ct_history.specs.declared.plan.PlanTest.{PlanTest}
use Rattle.ct_history.specs.declared.plan.PlanParts.{PlanParts}
use Rattle.ct_history.specs.declared.history.Entry.{Entry}
use Rattle.ct_history.specs.declared.history.Entry.TheVariants.{Start, End, Settle, Stop}
use Rattle.ct_history.specs.Plan.{test_at}
use Rattle.ct_history.specs.History.{has_stop}
use Rattle.ct_history.specs.Verdicts.{is_failing_in, is_over, is_passed_verdict, settled_or, verdict_of_test}
use Rattle.ct_history.specs.Rules.{cause_behind}
use Rattle.ct_history.specs.Legal.{has_failing}

-- the verdicts of the first `count` attempts of a test, where `seen` gives what is seen of each attempt
abbrev pub first_verdicts : Rules → (ℕ → Seen) → ℕ → List Verdict
first_verdicts rules seen count = map (λ attempt. verdict_of rules (seen attempt)) (range_with_len 1 count)

-- the last attempt of a test: the first attempt behind which the test is over, at the latest the attempt
-- whose number is the times of the repeat
abbrev pub last_attempt : Repeat → Rules → (ℕ → Seen) → Option ℕ
last_attempt repeat rules seen =
    find (λ attempt. is_over repeat (first_verdicts rules seen attempt)) (range_with_len 1 repeat.times)

-- the verdict that the attempts of a test are meant to have: the verdict of the last attempt
abbrev pub meant_of_attempts : Repeat → Rules → (ℕ → Seen) → Option Verdict
meant_of_attempts repeat rules seen =
    option_map (λ attempt. verdict_of rules (seen attempt)) (last_attempt repeat rules seen)

-- the least setup of a test that is not meant to pass, where `meant` gives the verdict of each setup;
-- `setups` ascends
abbrev pub first_unpassed_setup : (ℕ → Option Verdict) → PlanTest → Option ℕ
first_unpassed_setup meant t = find (λ s. not (is_passed_verdict (meant s))) t.setups

-- the cause for which a test is meant not to run: its least setup that is not meant to pass,
-- else its fixed cause
abbrev pub meant_cause : (ℕ → Option Verdict) → PlanTest → Option Cause
meant_cause meant t = cause_behind (first_unpassed_setup meant t) t.fixed

-- the verdict that a test is meant to have, where `meant` gives the verdict of each setup.
-- It is Disabled, else NotRun for its meant cause, else the verdict of its last attempt.
abbrev pub meant_by_setups : Repeat → (ℕ → ℕ → Seen) → (ℕ → Option Verdict) → Option PlanTest → Option Verdict
meant_by_setups repeat seen meant None = None
meant_by_setups repeat seen meant (Some t) =
    if t.disabled
    then Some Disabled
    else settled_or (meant_cause meant t) (meant_of_attempts repeat t.rules (seen t.number))

-- the verdict that the test with this number is meant to have,
-- with setups of setups followed for this many steps
abbrev pub meant_within : PlanParts → (ℕ → ℕ → Seen) → ℕ → ℕ → Option Verdict
meant_within plan seen zero number = None
meant_within plan seen (suc steps) number =
    meant_by_setups plan.repeat seen (meant_within plan seen steps) (test_at plan.tests number)

-- the verdict that the test with this number is meant to have, where `seen` gives what is seen of each
-- attempt. Setups make no cycle, so a chain of setups has at most as many steps as there are tests.
abbrev pub meant_verdict : PlanParts → (ℕ → ℕ → Seen) → ℕ → Option Verdict
meant_verdict plan seen number = meant_within plan seen (length plan.tests) number

-- some test of the plan is meant to have a verdict of the failing class
abbrev pub is_meant_to_fail : PlanParts → (ℕ → ℕ → Seen) → Bool
is_meant_to_fail plan seen = list_any (λ t. is_failing_in (meant_verdict plan seen t.number)) plan.tests

-- where the entry ends an attempt, it saw what `seen` gives of this attempt
abbrev pub IsSeen : (ℕ → ℕ → Seen) → Entry → Type 0
IsSeen seen (Start t a w placement) = ⊤
IsSeen seen (End t a w ended) = ended ≡ seen t a
IsSeen seen (Settle t cause) = ⊤
IsSeen seen Stop = ⊤

-- each End among the entries saw what `seen` gives of its attempt
abbrev pub AreSeen : (ℕ → ℕ → Seen) → List Entry → Type 0
AreSeen seen [] = ⊤
AreSeen seen (entry ∷ entries) = IsSeen seen entry × AreSeen seen entries

-- a test has its meant verdict, or the history has a Stop and the test was not run for it
abbrev pub IsMeant : PlanParts → (ℕ → ℕ → Seen) → List Entry → ℕ → Type 0
IsMeant plan seen entries number =
    (verdict_of_test plan entries number ≡ meant_verdict plan seen number)
    ⊎ ((has_stop entries ≡ true) × (verdict_of_test plan entries number ≡ Some (NotRun Stopped)))

-- each test has its meant verdict or was not run for a Stop. Without --stop-on-failure each test has its
-- meant verdict. Some verdict is of the failing class exactly where some meant verdict is.
pub record AreMeant (plan : PlanParts) (seen : ℕ → ℕ → Seen) (entries : List Entry) : Type 0 where
  pub verdicts : (number : ℕ) → IsMeant plan seen entries number
  pub unstopped : plan.stop_on_failure ≡ false → (number : ℕ)
      → verdict_of_test plan entries number ≡ meant_verdict plan seen number
  pub failing : has_failing plan entries ≡ is_meant_to_fail plan seen
