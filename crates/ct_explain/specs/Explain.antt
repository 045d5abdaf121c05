-- What each outcome of an explanation means: what was read, found and put. This project's own.
use Rattle.std.specs.Prelude.{◌≡◌, ◌⊎◌, ⊤, ℕ, Bool, List, [], ◌∷◌, Option, Ok, Err}
use Rattle.ct_base.specs.declared.sink.SinkFault.TheVariants as Sinks
use Rattle.ct_base.specs.Outside.{FilesTell, SinkTell}
use Rattle.ct_history.specs.declared.plan.PlanParts.{PlanParts}
use Rattle.ct_args.specs.declared.usage.UsageKind.TheVariants.{NoValue}
use Rattle.ct_report.specs.PutLines.{PutsLines}
use Rattle.ct_app.specs.declared.outcome.Outcome.TheVariants as Ends
use Rattle.ct_app.specs.Calls.{PutsOrFails, Sides, ThenLine, Tries, list_sides}
use Rattle.ct_app.specs.Complete.{IsRunnable, IsUnfailed}
use Rattle.ct_app.specs.Outcome.{fault_line}
use Rattle.ct_app.specs.Runs.{AnswersRun}
use Rattle.ct_journal.specs.declared.check.CheckOutcome.TheVariants as Checks
use Rattle.ct_journal.specs.Check.{IsJournalFault, IsJudged, IsShortCheck, IsShortEnough, no_path_line}
use Rattle.ct_journal.specs.CheckFound.{IsBadJournal, IsGoodJournal, IsLongJournal}
use Rattle.ct_journal.specs.File.{too_long_line}
use Rattle.ct_explain.specs.declared.why.Why.{Why}
use Rattle.ct_explain.specs.declared.story.Story.{Story}
use Rattle.ct_explain.specs.declared.explain.ExplainOutcome.{ExplainOutcome}
use Rattle.ct_explain.specs.declared.explain.ExplainOutcome.TheVariants.{Explained, No, TooLong, Usage, Refused, FilesFault, OutputFault, Memory}
use Rattle.ct_explain.specs.Found.{IsRefusedSo, IsStoryOfText, refusal_line, story_lines}
use Rattle.ct_explain.specs.Words.{asks_picture, journal_words}

-- the text that was read is the journal of a complete legal history, and `P` holds of what is put of its
-- story
abbrev pub TellsStory : Bool → PlanParts → Option (List ℕ) → (List (List ℕ) → Type 0) → Type 0
TellsStory picture plan found P =
    (story : Story) × IsGoodJournal plan found × IsStoryOfText plan found story
    × P (story_lines picture plan story)

-- the line with this number is refused for a reason, and `P` holds of the line that is put for it
abbrev pub TellsWhy : PlanParts → Option (List ℕ) → ℕ → (List (List ℕ) → Type 0) → Type 0
TellsWhy plan found line P =
    (why : Why) × IsBadJournal plan found line × IsRefusedSo plan found line why
    × P (refusal_line plan line why ∷ [])

-- a put of these lines failed
abbrev pub FailsToPut : Sides → List (List ℕ) → Type 0
FailsToPut s lines = PutsLines lines s.sink.before s.sink.after (Err Sinks.Failed)

-- all these lines were put
abbrev pub PutsAll : Sides → List (List ℕ) → Type 0
PutsAll s lines = PutsLines lines s.sink.before s.sink.after (Ok tt)

-- memory ran out in the put of these lines; then want of memory was reported
abbrev pub LacksToPut : Sides → List (List ℕ) → Type 0
LacksToPut s lines =
    ThenLine (λ middle. PutsLines lines s.sink.before middle (Err Sinks.NoMemory)) (λ middle.
    Tries (fault_line [] Ends.Memory) middle s.sink.after)

-- memory ran out: for a line of this outcome; or, with Memory, for a step before any line
abbrev pub IsShortExplain : Bool → List ℕ → Sides → ExplainOutcome → Type 0
IsShortExplain picture path s Explained =
    IsJudged path s (λ plan found. TellsStory picture plan found (LacksToPut s))
IsShortExplain picture path s (No line) =
    IsJudged path s (λ plan found. TellsWhy plan found line (LacksToPut s))
IsShortExplain picture path s TooLong = IsShortCheck path s Checks.TooLong
IsShortExplain picture path s (Usage word kind) = IsShortCheck path s (Checks.Usage word kind)
IsShortExplain picture path s (Refused refusal) = IsShortCheck path s (Checks.Refused refusal)
IsShortExplain picture path s (FilesFault failed) = IsShortCheck path s (Checks.FilesFault failed)
IsShortExplain picture path s OutputFault = ⊥
IsShortExplain picture path s Memory = IsShortCheck path s Checks.Memory

-- what each outcome and status of an explanation means, for the words behind the path of the journal:
-- - after Explained the report or the picture of the history was put, and after No the line that is refused
--   with its reason; after OutputFault a put of these failed;
-- - where the words have no plan, the answer is that of a run of these words;
-- - Memory alone may come at any time
abbrev pub ExplainsFor : Bool → List ℕ → Sides → ExplainOutcome → ℕ → Type 0
ExplainsFor picture path s Explained status =
    IsJudged path s (λ plan found. TellsStory picture plan found (PutsAll s)) × (status ≡ 0)
ExplainsFor picture path s (No line) status =
    IsJudged path s (λ plan found. TellsWhy plan found line (PutsAll s)) × (status ≡ 9)
ExplainsFor picture path s TooLong status =
    IsJudged path s (λ plan found. IsLongJournal found × PutsOrFails too_long_line s.sink.before s.sink.after)
    × (status ≡ 2)
ExplainsFor picture path s (Usage word kind) status = AnswersRun s (Ends.Usage word kind) status
ExplainsFor picture path s (Refused refusal) status = AnswersRun s (Ends.Refused refusal) status
ExplainsFor picture path s (FilesFault failed) status =
    AnswersRun s (Ends.FilesFault failed) status
    ⊎ ((failed ≡ path) × IsJournalFault path s
    × PutsOrFails (fault_line [] (Ends.FilesFault failed)) s.sink.before s.sink.after × (status ≡ 3))
ExplainsFor picture path s OutputFault status =
    IsJudged path s (λ plan found.
    TellsStory picture plan found (FailsToPut s)
    ⊎ ((line : ℕ) × TellsWhy plan found line (FailsToPut s)))
    × (status ≡ 4)
ExplainsFor picture path s Memory status =
    ((outcome : ExplainOutcome) × IsShortExplain picture path s outcome) × (status ≡ 5)

-- what each outcome and status of an explanation without a path means. The files are as before.
abbrev pub ExplainsNoPath : FilesTell → FilesTell → SinkTell → SinkTell → ExplainOutcome → ℕ → Type 0
ExplainsNoPath files files_now sink sink_now (Usage word kind) status =
    (word ≡ 1) × (kind ≡ NoValue) × (files_now ≡ files) × PutsOrFails no_path_line sink sink_now
    × (status ≡ 1)
ExplainsNoPath files files_now sink sink_now Memory status =
    (files_now ≡ files) × PutsLines (no_path_line ∷ []) sink sink_now (Err Sinks.NoMemory) × (status ≡ 5)
ExplainsNoPath files files_now sink sink_now outcome status = ⊥

-- what each outcome and status means for the words from the path of the journal on, where the picture is
-- asked for or is not
abbrev pub AnswersFrom : Bool
    → List (List ℕ) → FilesTell → FilesTell → SinkTell → SinkTell → ExplainOutcome → ℕ → Type 0
AnswersFrom picture [] files files_now sink sink_now outcome status =
    ExplainsNoPath files files_now sink sink_now outcome status
AnswersFrom picture (path ∷ words) files files_now sink sink_now outcome status =
    ExplainsFor picture path (list_sides words files files_now sink sink_now) outcome status

-- what each outcome and status of an explanation means: `--picture` may stand first; the word behind it is
-- the path of the journal, and the others are words of a run
abbrev pub AnswersExplain : List (List ℕ)
    → FilesTell → FilesTell → SinkTell → SinkTell → ExplainOutcome → ℕ → Type 0
AnswersExplain words files files_now sink sink_now outcome status =
    AnswersFrom (asks_picture words) (journal_words words) files files_now sink sink_now outcome status

-- the journal was explained or refused, or memory ran out
abbrev pub ExplainsOrRefuses : ExplainOutcome → Type 0
ExplainsOrRefuses Explained = ⊤
ExplainsOrRefuses (No line) = ⊤
ExplainsOrRefuses Memory = ⊤
ExplainsOrRefuses outcome = ⊥

-- a journal is explained or refused where a run of the words can be made, it is short enough, and no
-- fault was counted, unless memory ran out
abbrev pub CompletesFrom : List (List ℕ)
    → FilesTell → FilesTell → SinkTell → SinkTell → ExplainOutcome → Type 0
CompletesFrom [] files files_now sink sink_now outcome = ⊤
CompletesFrom (path ∷ words) files files_now sink sink_now outcome =
    IsRunnable (list_sides words files files_now sink sink_now)
    → IsUnfailed (list_sides words files files_now sink sink_now)
    → IsShortEnough path (list_sides words files files_now sink sink_now)
    → ExplainsOrRefuses outcome

-- the same for all words
abbrev pub CompletesExplain : List (List ℕ)
    → FilesTell → FilesTell → SinkTell → SinkTell → ExplainOutcome → Type 0
CompletesExplain words files files_now sink sink_now outcome =
    CompletesFrom (journal_words words) files files_now sink sink_now outcome
