-- What each outcome of a check of a journal means: what was read, found and put. This project's own.
use Rattle.std.specs.Prelude.{◌≡◌, ◌⊎◌, ⊤, ℕ, List, [], ◌∷◌, Option, Ok, Err, IfSome}
use Rattle.ct_base.specs.declared.sink.SinkFault.TheVariants as Sinks
use Rattle.ct_base.specs.Outside.{FilesTell, SameHeld, SinkTell}
use Rattle.ct_history.specs.declared.plan.PlanParts.{PlanParts}
use Rattle.ct_args.specs.declared.usage.UsageKind.TheVariants.{NoValue}
use Rattle.ct_report.specs.PutLines.{PutsLines}
use Rattle.ct_app.specs.declared.outcome.Outcome.TheVariants as Ends
use Rattle.ct_app.specs.Calls.{PutsOrFails, Sides, ThenLine, Tries, list_sides}
use Rattle.ct_app.specs.Complete.{IsRunnable, IsUnfailed}
use Rattle.ct_app.specs.Outcome.{fault_line}
use Rattle.ct_app.specs.Planning.{HasPlan}
use Rattle.ct_app.specs.RunFiles.{FilesFail}
use Rattle.ct_app.specs.Runs.{AnswersRun, IsShort}
use Rattle.ct_journal.specs.declared.check.CheckOutcome.{CheckOutcome}
use Rattle.ct_journal.specs.declared.check.CheckOutcome.TheVariants.{Yes, No, TooLong, Usage, Refused, FilesFault, OutputFault, Memory}
use Rattle.ct_journal.specs.File.{HasJournalSize, too_long_line}
use Rattle.ct_journal.specs.CheckFound.{IsBadJournal, IsGoodJournal, IsLongJournal, IsReadOf, accepted_line, refused_line}

-- the plan of these words was made, this was read of the journal, and `P` holds of both. Each path holds what
-- it held, and no call on the files failed.
pub record IsJudged (path : List ℕ) (s : Sides) (P : PlanParts → Option (List ℕ) → Type 0) : Type 0 where
  pub plan : PlanParts
  pub planned : HasPlan s.words s.files.before s.files.after plan
  pub found : Option (List ℕ)
  pub read : IfSome s.files.before.held (λ held. IsReadOf (held path) found)
  pub holds : P plan found

-- the plan of these words was made, and then the read of the journal failed. Each path holds what it held.
pub record IsJournalFault (path : List ℕ) (s : Sides) : Type 0 where
  pub plan : PlanParts
  pub middle : FilesTell
  pub planned : HasPlan s.words s.files.before middle plan
  pub files : FilesFail path SameHeld s.files.before s.files.after

-- the line is printed for what was read: that it is accepted, or which line is refused
abbrev pub IsPrinted : PlanParts → Option (List ℕ) → List ℕ → Type 0
IsPrinted plan found line =
    (IsGoodJournal plan found × (line ≡ accepted_line))
    ⊎ ((number : ℕ) × IsBadJournal plan found number × (line ≡ refused_line number))

-- memory ran out in the put of a line, a beginning of which was written; then want of memory was reported
abbrev pub IsUnprinted : List ℕ → Sides → Type 0
IsUnprinted line s =
    ThenLine (λ middle. PutsLines (line ∷ []) s.sink.before middle (Err Sinks.NoMemory)) (λ middle.
    Tries (fault_line [] Ends.Memory) middle s.sink.after)

-- memory ran out: for the line of this outcome; or, with Memory, for a step before any line
abbrev pub IsShortCheck : List ℕ → Sides → CheckOutcome → Type 0
IsShortCheck path s Yes =
    IsJudged path s (λ plan found. IsGoodJournal plan found × IsUnprinted accepted_line s)
IsShortCheck path s (No line) =
    IsJudged path s (λ plan found. IsBadJournal plan found line × IsUnprinted (refused_line line) s)
IsShortCheck path s TooLong =
    IsJudged path s (λ plan found. IsLongJournal found
    × PutsLines (too_long_line ∷ []) s.sink.before s.sink.after (Err Sinks.NoMemory))
IsShortCheck path s (Usage word kind) = IsShort s (Ends.Usage word kind)
IsShortCheck path s (Refused refusal) = IsShort s (Ends.Refused refusal)
IsShortCheck path s (FilesFault failed) =
    IsShort s (Ends.FilesFault failed)
    ⊎ ((failed ≡ path) × IsJournalFault path s
    × PutsLines (fault_line [] (Ends.FilesFault failed) ∷ [])
    s.sink.before s.sink.after (Err Sinks.NoMemory))
IsShortCheck path s OutputFault = ⊥
IsShortCheck path s Memory = IsShort s Ends.Memory

-- what each outcome and status of a check means, for the words behind the path of the journal:
-- - after Yes and No the printed line was put; after OutputFault its put failed;
-- - where the words have no plan, the answer is that of a run of these words;
-- - Memory alone may come at any time
abbrev pub AnswersFor : List ℕ → Sides → CheckOutcome → ℕ → Type 0
AnswersFor path s Yes status =
    IsJudged path s (λ plan found. IsGoodJournal plan found
    × PutsLines (accepted_line ∷ []) s.sink.before s.sink.after (Ok tt))
    × (status ≡ 0)
AnswersFor path s (No line) status =
    IsJudged path s (λ plan found. IsBadJournal plan found line
    × PutsLines (refused_line line ∷ []) s.sink.before s.sink.after (Ok tt))
    × (status ≡ 9)
AnswersFor path s TooLong status =
    IsJudged path s (λ plan found. IsLongJournal found × PutsOrFails too_long_line s.sink.before s.sink.after)
    × (status ≡ 2)
AnswersFor path s (Usage word kind) status = AnswersRun s (Ends.Usage word kind) status
AnswersFor path s (Refused refusal) status = AnswersRun s (Ends.Refused refusal) status
AnswersFor path s (FilesFault failed) status =
    AnswersRun s (Ends.FilesFault failed) status
    ⊎ ((failed ≡ path) × IsJournalFault path s
    × PutsOrFails (fault_line [] (Ends.FilesFault failed)) s.sink.before s.sink.after × (status ≡ 3))
AnswersFor path s OutputFault status =
    IsJudged path s (λ plan found. (line : List ℕ) × IsPrinted plan found line
    × PutsLines (line ∷ []) s.sink.before s.sink.after (Err Sinks.Failed))
    × (status ≡ 4)
AnswersFor path s Memory status = ((outcome : CheckOutcome) × IsShortCheck path s outcome) × (status ≡ 5)

-- the line of a check without any word: word 1, the path of the journal, has no value
abbrev pub no_path_line : List ℕ
no_path_line = fault_line [] (Ends.Usage 1 NoValue)

-- what each outcome and status of a check without any word means. The files are as before.
abbrev pub AnswersNoPath : FilesTell → FilesTell → SinkTell → SinkTell → CheckOutcome → ℕ → Type 0
AnswersNoPath files files_now sink sink_now (Usage word kind) status =
    (word ≡ 1) × (kind ≡ NoValue) × (files_now ≡ files) × PutsOrFails no_path_line sink sink_now
    × (status ≡ 1)
AnswersNoPath files files_now sink sink_now Memory status =
    (files_now ≡ files) × PutsLines (no_path_line ∷ []) sink sink_now (Err Sinks.NoMemory) × (status ≡ 5)
AnswersNoPath files files_now sink sink_now outcome status = ⊥

-- what each outcome and status of a check means: the first word is the path of the journal, and the others
-- are words of a run
abbrev pub AnswersCheck : List (List ℕ)
    → FilesTell → FilesTell → SinkTell → SinkTell → CheckOutcome → ℕ → Type 0
AnswersCheck [] files files_now sink sink_now outcome status =
    AnswersNoPath files files_now sink sink_now outcome status
AnswersCheck (path ∷ words) files files_now sink sink_now outcome status =
    AnswersFor path (list_sides words files files_now sink sink_now) outcome status

-- the check says yes or no, or memory ran out
abbrev pub SaysYesOrNo : CheckOutcome → Type 0
SaysYesOrNo Yes = ⊤
SaysYesOrNo (No line) = ⊤
SaysYesOrNo Memory = ⊤
SaysYesOrNo outcome = ⊥

-- the path holds no text that is longer than a journal may be, where the files tell
abbrev pub IsShortEnough : List ℕ → Sides → Type 0
IsShortEnough path s = IfSome s.files.before.held (λ held. IfSome (held path) HasJournalSize)

-- a check says yes or no where a run of its words can be made, the journal is short enough, and no fault was
-- counted, unless memory ran out
abbrev pub CompletesCheck : List (List ℕ)
    → FilesTell → FilesTell → SinkTell → SinkTell → CheckOutcome → Type 0
CompletesCheck [] files files_now sink sink_now outcome = ⊤
CompletesCheck (path ∷ words) files files_now sink sink_now outcome =
    IsRunnable (list_sides words files files_now sink sink_now)
    → IsUnfailed (list_sides words files files_now sink sink_now)
    → IsShortEnough path (list_sides words files files_now sink sink_now)
    → SaysYesOrNo outcome
