-- What each outcome of a run means: what was read, run, asked and written. This project's own.
use Rattle.std.specs.Prelude.{◌≡◌, ◌⊎◌, ℕ, ◌≤◌, true, List, [], ◌∷◌, Ok, Err, IsSomeAnd}
use Rattle.ct_base.specs.declared.defs.Pair.{Pair}
use Rattle.ct_base.specs.declared.sink.SinkFault.TheVariants as Sinks
use Rattle.ct_base.specs.Outside.{SinkTell}
use Rattle.ct_history.specs.declared.plan.PlanParts.{PlanParts}
use Rattle.ct_history.specs.declared.history.Entry.{Entry}
use Rattle.ct_history.specs.Legal.{IsComplete}
use Rattle.ct_core.specs.Gate.{GateTell}
use Rattle.ct_core.specs.Order.{FollowsQueue}
use Rattle.ct_graph.specs.Order.{most_edges}
use Rattle.ct_args.specs.declared.invocation.Invocation.{Invocation}
use Rattle.ct_plan.specs.PlanOf.{IsPlanOf}
use Rattle.ct_plan.specs.Source.{Source, edge_count}
use Rattle.ct_report.specs.PutLines.{PutsLines}
use Rattle.ct_report.specs.Report.{report_lines}
use Rattle.ct_app.specs.declared.outcome.Refusal.{Refusal}
use Rattle.ct_app.specs.declared.outcome.Outcome.{Outcome}
use Rattle.ct_app.specs.declared.outcome.Outcome.TheVariants.{Completed, Listed, Usage, Refused, FilesFault, OutputFault, Memory}
use Rattle.ct_worker.specs.Gates.{had_memory}
use Rattle.ct_app.specs.Stops.{StopsSo}
use Rattle.ct_app.specs.Tests.{terms_from}
use Rattle.ct_app.specs.Outcome.{fault_line, status_of}
use Rattle.ct_app.specs.Reading.{AskFor, IsSource, RefusesPlan, RunFailsAt}
use Rattle.ct_app.specs.Run.{HasRun}
use Rattle.ct_app.specs.RunFiles.{FilesFail, FilesServe, FilesStay, IsWritten, Leaves, LeavesPart, LeavesTorn, WithLast}
use Rattle.ct_app.specs.Calls.{IsReadFault, IsUndeclared, IsUnreadable, IsUnrun, IsUsage, PutsOrFails, Sides, ThenLine, Tries}

-- a plan was made of this source, and its tests ran as far as the history goes:
-- - the source has at most `most_edges` edges;
-- - the history agrees with the plan and with what the gates were asked and told, as `HasRun` says;
-- - each test was started or settled when it was the next by the queue
pub record IsRunOf (env : List Pair) (source : Source) (limit : ℕ) (gates_before gates_now : List GateTell)
    (plan : PlanParts) (entries : List Entry) : Type 0 where
  pub few : edge_count source ≤ most_edges
  pub planned : IsPlanOf source plan
  pub ran : HasRun (terms_from env source limit) gates_before gates_now plan entries
  pub order : FollowsQueue plan entries

-- the source that the words ask for was read, and its tests ran as far as the history goes
pub record IsRun
    (s : Sides) (invocation : Invocation) (source : Source) (plan : PlanParts) (entries : List Entry)
    : Type 0 where
  pub words : AskFor s.words invocation
  pub read : IsSource s.files.before.held invocation source
  pub ran : IsRunOf s.env source invocation.timeout s.gates.before s.gates.after plan entries

-- the plan and the history are those of a run of the tests that were read, and `P` holds of them
pub record RanWith
    (s : Sides) (P : Invocation → PlanParts → List Entry → Type 0) (plan : PlanParts) (entries : List Entry)
    : Type 0 where
  pub invocation : Invocation
  pub source : Source
  pub run : IsRun s invocation source plan entries
  pub holds : P invocation plan entries

-- plan and history are there and belong to a run of the tests that were read, and `P` holds of them
abbrev pub HasRunWith : Sides → (Invocation → PlanParts → List Entry → Type 0) → Type 0
HasRunWith s P = IsSomeAnd s.plan (λ plan. IsSomeAnd s.history (λ entries. RanWith s P plan entries))

-- each test is final, no start is open, no attempt lacked memory, and the whole report was put, line by line
pub record IsReported (plan : PlanParts) (entries : List Entry) (before now : SinkTell) : Type 0 where
  pub complete : IsComplete plan entries
  pub memory : had_memory entries ≡ true
  pub put : PutsLines (report_lines plan entries) before now (Ok tt)

-- the sink failed at the report, and the run stopped there
abbrev pub IsCutOff : PlanParts → List Entry → SinkTell → SinkTell → Type 0
IsCutOff plan entries before now = StopsSo Sinks.Failed plan entries before now

-- memory ran out for the report, for an attempt or for a step, and the run was given up
abbrev pub IsGivenUp : PlanParts → List Entry → SinkTell → SinkTell → Type 0
IsGivenUp plan entries before now = StopsSo Sinks.NoMemory plan entries before now

-- the tests that were read have no plan; the files stay, and nothing was run.
-- The tests of a cycle have these names.
pub record IsUnplannable (s : Sides) (refusal : Refusal) (names : List (List ℕ)) : Type 0 where
  pub invocation : Invocation
  pub words : AskFor s.words invocation
  pub source : Source
  pub read : IsSource s.files.before.held invocation source
  pub refused : RefusesPlan source refusal names
  pub files : FilesStay s.files.before s.files.after
  pub unrun : IsUnrun s

-- the tests, the specification or the plan is refused; the tests of a cycle have these names
abbrev pub IsRefusal : Sides → Refusal → List (List ℕ) → Type 0
IsRefusal s refusal names = IsUnreadable s refusal ⊎ (IsUndeclared s refusal ⊎ IsUnplannable s refusal names)

-- a refusal came, and `Line` holds of its line, which names the tests of a cycle
pub record ReportsRefusal (s : Sides) (refusal : Refusal) (Line : List ℕ → Type 0) : Type 0 where
  pub names : List (List ℕ)
  pub refused : IsRefusal s refusal names
  pub line : Line (fault_line names (Refused refusal))

-- the files of a complete run were written
abbrev pub FilesAreLeft : Sides → PlanParts → List Entry → Type 0
FilesAreLeft s plan entries =
    FilesServe (WithLast plan.dir (Leaves plan entries)) s.files.before s.files.after

-- a write of a complete run failed at this path
abbrev pub IsWriteFault : Sides → List ℕ → PlanParts → List Entry → Type 0
IsWriteFault s path plan entries =
    IsWritten plan entries path
    × FilesFail path (WithLast plan.dir (LeavesTorn plan entries path)) s.files.before s.files.after

-- memory ran out in a run: the run was given up and the files stay,
-- or the run was reported and memory ran out for its files
abbrev pub IsCutShort : Sides → PlanParts → List Entry → SinkTell → Type 0
IsCutShort s plan entries middle =
    (IsGivenUp plan entries s.sink.before middle × FilesStay s.files.before s.files.after)
    ⊎ (IsReported plan entries s.sink.before middle
    × FilesServe (WithLast plan.dir (LeavesPart plan entries)) s.files.before s.files.after)

-- memory ran out without a plan: for the line of this outcome; or, with Memory, for a step before any line
abbrev pub IsShort : Sides → Outcome → Type 0
IsShort s (Usage word kind) =
    IsUsage s word kind
    × PutsLines (fault_line [] (Usage word kind) ∷ []) s.sink.before s.sink.after (Err Sinks.NoMemory)
IsShort s (Refused refusal) =
    ReportsRefusal s refusal (λ line. PutsLines (line ∷ []) s.sink.before s.sink.after (Err Sinks.NoMemory))
IsShort s (FilesFault path) =
    IsReadFault s RunFailsAt path
    × PutsLines (fault_line [] (FilesFault path) ∷ []) s.sink.before s.sink.after (Err Sinks.NoMemory)
IsShort s Memory =
    IsUnrun s × FilesStay s.files.before s.files.after
    × Tries (fault_line [] Memory) s.sink.before s.sink.after
IsShort s outcome = ⊥

-- memory ran out with a plan: for the line of a write that failed; or, with Memory,
-- in the run or for its files
abbrev pub IsShortRun : Sides → Outcome → PlanParts → List Entry → Type 0
IsShortRun s (FilesFault path) plan entries =
    IsWriteFault s path plan entries
    × ThenLine (IsReported plan entries s.sink.before) (λ middle.
    PutsLines (fault_line [] (FilesFault path) ∷ []) middle s.sink.after (Err Sinks.NoMemory))
IsShortRun s Memory plan entries =
    ThenLine (IsCutShort s plan entries) (λ middle. Tries (fault_line [] Memory) middle s.sink.after)
IsShortRun s outcome plan entries = ⊥

-- a run was completed: it was reported, its files were written, and this is the status of the run
pub record IsCompleted
    (s : Sides) (status : ℕ) (invocation : Invocation) (plan : PlanParts) (entries : List Entry)
    : Type 0 where
  pub reported : IsReported plan entries s.sink.before s.sink.after
  pub left : FilesAreLeft s plan entries
  pub is : status ≡ status_of invocation.empty_is_error plan entries

-- a write of a complete run failed at this path, and the line of the failure was put behind the whole report
abbrev pub IsUnwritten : Sides → List ℕ → PlanParts → List Entry → Type 0
IsUnwritten s path plan entries =
    IsWriteFault s path plan entries
    × ThenLine (IsReported plan entries s.sink.before) (λ middle.
    PutsOrFails (fault_line [] (FilesFault path)) middle s.sink.after)

-- what each outcome and status of a run means; Memory alone may come at any time
abbrev pub AnswersRun : Sides → Outcome → ℕ → Type 0
AnswersRun s Completed status = HasRunWith s (IsCompleted s status)
AnswersRun s Listed status = ⊥
AnswersRun s (Usage word kind) status =
    IsUsage s word kind × PutsOrFails (fault_line [] (Usage word kind)) s.sink.before s.sink.after
    × (status ≡ 1)
AnswersRun s (Refused refusal) status =
    ReportsRefusal s refusal (λ line. PutsOrFails line s.sink.before s.sink.after) × (status ≡ 2)
AnswersRun s (FilesFault path) status =
    ((IsReadFault s RunFailsAt path
    × PutsOrFails (fault_line [] (FilesFault path)) s.sink.before s.sink.after)
    ⊎ HasRunWith s (λ invocation. IsUnwritten s path))
    × (status ≡ 3)
AnswersRun s OutputFault status =
    HasRunWith s (λ invocation plan entries. IsCutOff plan entries s.sink.before s.sink.after
    × FilesStay s.files.before s.files.after)
    × (status ≡ 4)
AnswersRun s Memory status =
    ((outcome : Outcome) × (IsShort s outcome ⊎ HasRunWith s (λ invocation. IsShortRun s outcome)))
    × (status ≡ 5)
