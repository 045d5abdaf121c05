-- What a run that keeps its journal did, and what each end of the journal means. This project's own.
use Rattle.std.specs.Prelude.{◌≡◌, ◌≢◌, ℕ, ◌<◌, ◌≤◌, List, [], ◌∷◌, length, Option, Result, Ok, Err, IsSomeAnd}
use Rattle.ct_base.specs.declared.memory.NoMemory.{NoMemory}
use Rattle.ct_base.specs.declared.sink.SinkFault.TheVariants as Sinks
use Rattle.ct_base.specs.Outside.{FailsToWrite, FilesTell, SinkTell, Writes}
use Rattle.ct_history.specs.declared.plan.PlanParts.{PlanParts}
use Rattle.ct_history.specs.declared.history.Entry.{Entry}
use Rattle.ct_report.specs.PutLines.{PutsLines}
use Rattle.ct_args.specs.declared.usage.UsageKind.TheVariants.{NoValue}
use Rattle.ct_journal_text.specs.Journal.{journal_of}
use Rattle.ct_journal_text.specs.Found.{IsAccepted}
use Rattle.ct_app.specs.declared.outcome.Outcome.{Outcome}
use Rattle.ct_app.specs.declared.outcome.Outcome.TheVariants as Ran
use Rattle.ct_app.specs.Ends.{PutsFault}
use Rattle.ct_app.specs.Outcome.{fault_line, fault_status}
use Rattle.ct_app.specs.RunFiles.{FilesFail, FilesServe, FilesStay}
use Rattle.ct_app.specs.Calls.{BeforeAfter, IsUnrun, PutsOrFails, Sides, sides}
use Rattle.ct_app.specs.Answers.{Answers}
use Rattle.ct_app.specs.MeantRuns.{AnswersAsMeant}
use Rattle.ct_app.specs.Complete.{Completes}
use Rattle.ct_journal.specs.File.{too_long_line}
use Rattle.ct_journal.specs.RecordPlan.{without_order}
use Rattle.ct_journal.specs.declared.record.JournalEnd.{JournalEnd}
use Rattle.ct_journal.specs.declared.record.JournalEnd.TheVariants.{Written, NoRun, TooLong, FilesFault, Memory}

-- how a call that keeps a journal ended: the outcome and the status of its run, the end of the journal,
-- whether memory sufficed for the line of that end, and the status of the call
pub record CallEnd : Type 0 where
  pub outcome : Outcome
  pub run_status : ℕ
  pub journal : JournalEnd
  pub line : Result (Unit {0}) NoMemory
  pub status : ℕ

-- the end of a run whose journal of at most so many bytes goes to a path: its outcome and history, and what
-- the files and the sink told when the run ended and when the call ended
pub record RunEnd : Type 0 where
  pub most : ℕ
  pub path : List ℕ
  pub outcome : Outcome
  pub history : Option (List Entry)
  pub files : BeforeAfter FilesTell
  pub sink : BeforeAfter SinkTell

-- the end of a run, as one record
abbrev pub run_end : ℕ
    → List ℕ → Outcome → Option (List Entry) → FilesTell → FilesTell → SinkTell → SinkTell → RunEnd
run_end most path outcome history files_then files_now sink_then sink_now = record {
  most = most;
  path = path;
  outcome = outcome;
  history = history;
  files = record { before = files_then; after = files_now };
  sink = record { before = sink_then; after = sink_now };
}

-- what the write of the text of a journal of at most so many bytes to a path did to the files, by its end;
-- want of memory may come at any time
abbrev pub WritesJournal : ℕ → List ℕ → List ℕ → FilesTell → FilesTell → JournalEnd → Type 0
WritesJournal most path text before now Written =
    (length text ≤ most) × FilesServe (Writes path text) before now
WritesJournal most path text before now NoRun = ⊥
WritesJournal most path text before now TooLong = (most < length text) × (now ≡ before)
WritesJournal most path text before now FilesFault =
    (length text ≤ most) × FilesFail path (FailsToWrite path text) before now
WritesJournal most path text before now Memory = FilesStay before now

-- a line was put whole by one put, or its put failed, and the count of the sink rose. Else it is told that
-- memory ran out for the line, of which a beginning was written.
abbrev pub TriesLine : List ℕ → SinkTell → SinkTell → Result (Unit {0}) NoMemory → Type 0
TriesLine line before now (Ok done) = PutsOrFails line before now
TriesLine line before now (Err wanting) = PutsLines (line ∷ []) before now (Err Sinks.NoMemory)

-- no line is due: nothing was put, and no want of memory is told
abbrev pub HasNoLine : SinkTell → SinkTell → Result (Unit {0}) NoMemory → Type 0
HasNoLine before now told = (now ≡ before) × (told ≡ Ok tt)

-- the line that is tried for each end of the journal at a path, and what is told of it; three ends have none
abbrev pub TellsEnd : List ℕ → SinkTell → SinkTell → Result (Unit {0}) NoMemory → JournalEnd → Type 0
TellsEnd path before now told Written = HasNoLine before now told
TellsEnd path before now told NoRun = HasNoLine before now told
TellsEnd path before now told TooLong = TriesLine too_long_line before now told
TellsEnd path before now told FilesFault = TriesLine (fault_line [] (Ran.FilesFault path)) before now told
TellsEnd path before now told Memory = HasNoLine before now told

-- the status of a call by the end of its journal, for the status of its run
abbrev pub status_after : ℕ → JournalEnd → ℕ
status_after status Written = status
status_after status NoRun = status
status_after status TooLong = 2
status_after status FilesFault = 3
status_after status Memory = 5

-- the run was not completed, and behind it nothing was written and nothing was put
pub record HasNoJournal (run : RunEnd) (told : Result (Unit {0}) NoMemory) : Type 0 where
  pub incomplete : run.outcome ≢ Ran.Completed
  pub files : run.files.after ≡ run.files.before
  pub line : HasNoLine run.sink.before run.sink.after told

-- the run was completed, the journal of its history came to this end, and its line, if one is due, was tried
pub record HasJournal (run : RunEnd) (told : Result (Unit {0}) NoMemory) (end : JournalEnd) : Type 0 where
  pub completed : run.outcome ≡ Ran.Completed
  pub journal : IsSomeAnd run.history (λ entries.
      WritesJournal run.most run.path (journal_of entries) run.files.before run.files.after end)
  pub line : TellsEnd run.path run.sink.before run.sink.after told end

-- what each end of the journal means behind a run, and what is told of its line: NoRun, that there is no
-- journal; the others, what became of it
abbrev pub IsJournalEnd : RunEnd → Result (Unit {0}) NoMemory → JournalEnd → Type 0
IsJournalEnd run told NoRun = HasNoJournal run told
IsJournalEnd run told end = HasJournal run told end

-- the values of the run in a call: its words, and what the files and the sink told when it ended
abbrev pub run_in : Sides → List (List ℕ) → FilesTell → SinkTell → Sides
run_in s words files sink =
    sides words s.env s.files.before files s.gates.before s.gates.after s.sink.before sink s.plan s.history

-- these words were run, all clauses of a run hold of what was told when it ended, and behind it the journal
-- of at most so many bytes came to its end
pub record RecordsRun (most : ℕ) (s : Sides) (path : List ℕ) (words : List (List ℕ)) (end : CallEnd)
    : Type 0 where
  pub files : FilesTell
  pub sink : SinkTell
  pub answer : Answers (run_in s words files sink) end.outcome end.run_status
  pub meant : AnswersAsMeant (run_in s words files sink) end.outcome end.run_status
  pub complete : Completes (run_in s words files sink) end.outcome
  pub journal :
      IsJournalEnd (run_end most path end.outcome s.history files s.files.after sink s.sink.after)
      end.line end.journal
  pub status : end.status ≡ status_after end.run_status end.journal

-- there is no word: its lack is reported, as `ctest_main` reports a word that is refused, and the status is
-- that of what is reported. Nothing was run, no journal was written, and no call was made on the files.
pub record IsUnnamed (s : Sides) (end : CallEnd) : Type 0 where
  pub told : PutsFault [] (Ran.Usage 1 NoValue) end.outcome s.sink.before s.sink.after
  pub run_status : end.run_status ≡ fault_status end.outcome
  pub journal : end.journal ≡ NoRun
  pub line : end.line ≡ Ok tt
  pub status : end.status ≡ fault_status end.outcome
  pub files : s.files.after ≡ s.files.before
  pub unrun : IsUnrun s

-- what a call with these words did: the first word is the path of the journal, which has at most so many
-- bytes, and the others are those of the run
abbrev pub RecordsFor : ℕ → List (List ℕ) → Sides → CallEnd → Type 0
RecordsFor most [] s end = IsUnnamed s end
RecordsFor most (path ∷ words) s end = RecordsRun most s path words end

-- a journal that was written is accepted for the plan of its run, and for each plan that differs from it in
-- the order of the starts alone: it is that of the history of the run, which is legal and complete
abbrev pub AcceptsWritten : Option PlanParts → Option (List Entry) → JournalEnd → Type 0
AcceptsWritten plan history end =
    end ≡ Written
    → IsSomeAnd plan (λ plan. IsSomeAnd history (λ entries.
    (other : PlanParts) → without_order plan ≡ without_order other → IsAccepted other (journal_of entries)))
