-- The verdict of one attempt, and when a test is tried again.
-- Source: CMake manual, cmake-properties(7), Properties on Tests; ctest(1), --repeat.
use Rattle.std.specs.Prelude.{ℕ, ℤ, pos, Bool, true, false, not, ◌&&◌, ◌||◌, Option, Some, None, nat_lt, if◌then◌else◌}
use Rattle.std.specs.Ordering.{int_eq}
use Rattle.ct_verdict.specs.declared.attempt.How.{How}
use Rattle.ct_verdict.specs.declared.attempt.How.TheVariants.{Exited, Signalled, TimedOut, NotStarted, Lacks, NoMemory}
use Rattle.ct_verdict.specs.declared.attempt.Seen.{Seen}
use Rattle.ct_verdict.specs.declared.rules.Rules.{Rules}
use Rattle.ct_verdict.specs.declared.repeat.Mode.{Mode}
use Rattle.ct_verdict.specs.declared.repeat.Mode.TheVariants.{Once, UntilFail, UntilPass, AfterTimeout}
use Rattle.ct_verdict.specs.declared.repeat.Repeat.{Repeat}
use Rattle.ct_verdict.specs.declared.verdict.Cause.{Cause}
use Rattle.ct_verdict.specs.declared.verdict.Cause.TheVariants as Why
use Rattle.ct_verdict.specs.declared.verdict.Cause.TheVariants.{Unstarted, Fixture, NotAvailable, BadOperation, Insufficient, Stopped, Memory}
use Rattle.ct_verdict.specs.declared.verdict.Verdict.{Verdict}
use Rattle.ct_verdict.specs.declared.verdict.Verdict.TheVariants.{Passed, Failed, Timeout, Exception, Skipped, NotRun, Disabled}

-- the exit code is the skip code of the test
abbrev pub has_skip_code : Option ℤ → ℤ → Bool
has_skip_code None code = false
has_skip_code (Some skip) code = int_eq skip code

-- an exit counts as skipped: it has the skip code, or a skip pattern hits
abbrev pub is_skipped_exit : Rules → Seen → ℤ → Bool
is_skipped_exit rules seen code = has_skip_code rules.skip_code code || seen.skip_hit

-- an exit is good: no fail pattern hits;
-- and a pass pattern hits or, where the test has none, the exit code is 0
abbrev pub is_good_exit : Rules → Seen → ℤ → Bool
is_good_exit rules seen code =
    not seen.fail_hit && (if rules.pass_wanted then seen.pass_hit else int_eq code (pos 0))

-- an exit passes: it is good or, for a test with WILL_FAIL, it is not
abbrev pub is_passing_exit : Rules → Seen → ℤ → Bool
is_passing_exit rules seen code =
    if rules.will_fail then not (is_good_exit rules seen code) else is_good_exit rules seen code

-- the verdict of an exit: skipped, passed or failed
abbrev pub verdict_of_exit : Rules → Seen → ℤ → Verdict
verdict_of_exit rules seen code =
    if is_skipped_exit rules seen code
    then Skipped
    else (if is_passing_exit rules seen code then Passed else Failed)

-- the verdict of an attempt, by how it ended
abbrev pub verdict_of_how : Rules → Seen → How → Verdict
verdict_of_how rules seen (Exited code) = verdict_of_exit rules seen code
verdict_of_how rules seen Signalled = Exception
verdict_of_how rules seen TimedOut = Timeout
verdict_of_how rules seen NotStarted = NotRun Unstarted
verdict_of_how rules seen (Lacks place) = NotRun (Why.Lacks place)
verdict_of_how rules seen NoMemory = NotRun Memory

-- the verdict of one attempt, from what was seen of it
abbrev pub verdict_of : Rules → Seen → Verdict
verdict_of rules seen = verdict_of_how rules seen seen.how

-- a test that did not run for this cause makes the run fail
abbrev pub is_failing_cause : Cause → Bool
is_failing_cause Stopped = false
is_failing_cause Memory = false
is_failing_cause _ = true

-- a test with this verdict makes the run fail: the failing class
abbrev pub is_failing_verdict : Verdict → Bool
is_failing_verdict Passed = false
is_failing_verdict Failed = true
is_failing_verdict Timeout = true
is_failing_verdict Exception = true
is_failing_verdict Skipped = false
is_failing_verdict (NotRun cause) = is_failing_cause cause
is_failing_verdict Disabled = false

-- in this mode, an attempt with this verdict asks for one more
abbrev pub asks_again : Mode → Verdict → Bool
asks_again Once last = false
asks_again UntilFail Passed = true
asks_again UntilFail _ = false
asks_again UntilPass last = is_failing_verdict last
asks_again AfterTimeout Timeout = true
asks_again AfterTimeout _ = false

-- a test is tried again after `done` attempts: always before the first attempt;
-- later, if fewer than `times` are done and the last verdict asks for one more
abbrev pub is_repeated : Repeat → ℕ → Option Verdict → Bool
is_repeated repeat done None = true
is_repeated repeat done (Some last) = nat_lt done repeat.times && asks_again repeat.mode last
