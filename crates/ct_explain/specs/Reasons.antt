-- Why a line of a journal is refused: the first reason that holds. This project's own.
use Rattle.std.specs.Prelude.{ℕ, not, List, length, Option, Some, None, option_map, is_some, ◌==◌, if◌then◌else◌}
use Rattle.ct_base.specs.declared.defs.Resource.{Resource}
use Rattle.ct_alloc.specs.declared.placement.Placement.{Placement}
use Rattle.ct_history.specs.declared.plan.PlanTest.{PlanTest}
use Rattle.ct_history.specs.declared.plan.PlanParts.{PlanParts}
use Rattle.ct_history.specs.declared.history.Entry.{Entry}
use Rattle.ct_history.specs.Plan.{test_at}
use Rattle.ct_history.specs.Verdicts.{verdict_of_test}
use Rattle.ct_history.specs.Legal.{is_stop_due}
use Rattle.ct_history.specs.Audited.{is_at_end}
use Rattle.ct_journal_text.specs.declared.lines.EntryLine.{EntryLine}
use Rattle.ct_journal_text.specs.declared.lines.EntryLine.TheVariants.{Start, End, Settle, Stop}
use Rattle.ct_journal_text.specs.declared.lines.JournalLine.{JournalLine}
use Rattle.ct_journal_text.specs.declared.lines.JournalLine.TheVariants as Line
use Rattle.ct_journal_text.specs.Completed.{of_picks, picks_by}
use Rattle.ct_explain.specs.declared.wait.Wait.{Wait}
use Rattle.ct_explain.specs.declared.wait.Wait.TheVariants.{Nothing}
use Rattle.ct_explain.specs.declared.why.Why.{Why}
use Rattle.ct_explain.specs.declared.why.Why.TheVariants.{NoLine, StopIsDue, NoStopIsDue, NoTest, IsFinal, Waited, MayNotStart, NoSuchStart, MayNotBeSettled, IsNotComplete, NotThisManyEntries}
use Rattle.ct_explain.specs.Waits.{wait_of}

-- a Start that waits for something is refused for that; one that waits for nothing may not start
abbrev pub why_not_start : ℕ → Wait → Why
why_not_start test Nothing = MayNotStart test
why_not_start test wait = Waited test wait

-- the placement that the places of a Start of the test stand for, where there is one
abbrev pub start_placement : Option (List Resource) → PlanTest → Option (List ℕ) → Option Placement
start_placement None t places = None
start_placement (Some resources) t None = None
start_placement (Some resources) t (Some places) = option_map of_picks (picks_by resources t.needs places)

-- why the line of an entry is refused that speaks of this test, which is not final
abbrev pub why_not_of : PlanParts → List Entry → PlanTest → EntryLine → Why
why_not_of plan front t (Start test attempt worker places) =
    why_not_start t.number (wait_of plan front t attempt worker (start_placement plan.resources t places))
why_not_of plan front t (End test attempt worker seen) = NoSuchStart
why_not_of plan front t (Settle test cause) = MayNotBeSettled t.number
why_not_of plan front t Stop = NoStopIsDue

-- the number of the test that the line of an entry speaks of, if it speaks of one
abbrev pub line_test : EntryLine → Option ℕ
line_test (Start test attempt worker places) = Some test
line_test (End test attempt worker seen) = Some test
line_test (Settle test cause) = Some test
line_test Stop = None

-- why the line is refused of an entry that speaks of the test with this number, where it was looked up
abbrev pub why_not_found : PlanParts → List Entry → ℕ → EntryLine → Option PlanTest → Why
why_not_found plan front number line None = NoTest number
why_not_found plan front number line (Some t) =
    if is_some (verdict_of_test plan front number) then IsFinal number else why_not_of plan front t line

-- why the line of an entry is refused, by the number of the test that it speaks of
abbrev pub why_not_by : PlanParts → List Entry → EntryLine → Option ℕ → Why
why_not_by plan front line None = NoStopIsDue
why_not_by plan front line (Some number) =
    if is_stop_due plan front
    then StopIsDue
    else why_not_found plan front number line (test_at plan.tests number)

-- why a last line that tells this number of entries is refused
abbrev pub why_not_done : PlanParts → List Entry → ℕ → Why
why_not_done plan front entries =
    if is_stop_due plan front
    then StopIsDue
    else (if not (is_at_end plan front)
    then IsNotComplete
    else (if not (entries == length front) then NotThisManyEntries else NoLine))

-- why a line is refused behind these entries, by what it says. A last line that is good by itself has text
-- behind it, so that it is no line of a journal
abbrev pub first_reason : PlanParts → List Entry → Option JournalLine → Why
first_reason plan front None = NoLine
first_reason plan front (Some Line.First) = NoLine
first_reason plan front (Some (Line.Entry line)) = why_not_by plan front line (line_test line)
first_reason plan front (Some (Line.Done entries)) = why_not_done plan front entries
