-- What the lines of the tests of a run need of its history so far. This project's own.
use Rattle.std.specs.Prelude.{ℕ, ◌≡◌, ◌≤◌, ◌++◌, ◌∷◌, [], List, length, map, take}
use Rattle.ct_history.specs.declared.plan.PlanTest.{PlanTest}
use Rattle.ct_history.specs.declared.plan.PlanParts.{PlanParts}
use Rattle.ct_history.specs.declared.history.Entry.{Entry}
use Rattle.ct_history.specs.Plan.{enabled}
use Rattle.ct_report.specs.declared.run_lines.TestLines.{TestLines}
use Rattle.ct_report.specs.Report.{micros_of}

-- the microseconds of each test's Ends
abbrev pub micros_each : List PlanTest → List Entry → List ℕ
micros_each tests entries = map (λ (t : PlanTest). micros_of t.number entries) tests

-- where these were the microseconds of each test after some entries, they are now those after one more entry
abbrev pub NotesEntry : List PlanTest → Entry → List ℕ → List ℕ → Type 0
NotesEntry tests entry before now =
    (front : List Entry) → before ≡ micros_each tests front → now ≡ micros_each tests (front ++ entry ∷ [])

-- the lines have read a beginning of these entries: they know how many tests are enabled, and the
-- microseconds of each test after it
pub record KnowsLines (plan : PlanParts) (entries : List Entry) (lines : TestLines) : Type 0 where
  pub within : lines.read ≤ length entries
  pub count : lines.enabled ≡ length (enabled plan.tests)
  pub micros : lines.micros.items ≡ micros_each plan.tests (take lines.read entries)
