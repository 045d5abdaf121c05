-- How a call ended, before its outcome is reported. This project's own.
use Rattle.std.specs.Prelude.{◌≡◌, ◌⊎◌, ℕ, ◌-◌, ◌^◌, ◌<◌, Bool, List, [], ◌∷◌, length, Option, Result, Ok, Err, IfSome}
use Rattle.ct_base.specs.declared.defs.Resource.{Resource}
use Rattle.ct_base.specs.declared.defs.TestDef.{TestDef}
use Rattle.ct_base.specs.declared.sink.SinkFault.{SinkFault}
use Rattle.ct_base.specs.declared.sink.SinkFault.TheVariants as Sinks
use Rattle.ct_base.specs.Outside.{FilesTell, SameHeld, SinkTell}
use Rattle.ct_testfile.specs.Asks.{TreeAsks}
use Rattle.ct_history.specs.declared.plan.PlanParts.{PlanParts}
use Rattle.ct_history.specs.declared.history.Entry.{Entry}
use Rattle.ct_history.specs.declared.history.History.{History}
use Rattle.ct_cost.specs.declared.cost_data.CostData.{CostData}
use Rattle.ct_args.specs.declared.invocation.Invocation.{Invocation}
use Rattle.ct_plan.specs.declared.fault.PlanFault.{PlanFault}
use Rattle.ct_plan.specs.declared.fault.PlanFault.TheVariants as Plans
use Rattle.ct_report.specs.PutLines.{PutsLines}
use Rattle.ct_app.specs.declared.outcome.Outcome.{Outcome}
use Rattle.ct_app.specs.declared.outcome.Outcome.TheVariants.{Completed, Listed, Usage, Refused, FilesFault, OutputFault, Memory}
use Rattle.ct_app.specs.declared.outcome.Refusal.{Refusal}
use Rattle.ct_app.specs.declared.outcome.Refusal.TheVariants.{Cycle, TooManyEdges}
use Rattle.ct_app.specs.declared.props.Tests.{Tests}
use Rattle.ct_app.specs.declared.run_files.RunFileFault.TheVariants as Fault
use Rattle.ct_app.specs.Calls.{IsReadFault, IsUnreadable, IsUnrun, IsUsage, PutsOrFails, Sides}
use Rattle.ct_app.specs.Runs.{HasRunWith, IsCompleted, IsCutOff, IsCutShort, IsGivenUp, IsRefusal, IsReported, IsWriteFault}
use Rattle.ct_app.specs.Lists.{HasList}
use Rattle.ct_app.specs.Outcome.{fault_line, fault_status, names_at, outcome_of_sink, status_of}
use Rattle.ct_app.specs.Reading.{AreRead, AskFor, ListFailsAt, RefusesReading, RefusesSpec, RunFailsAt}
use Rattle.ct_app.specs.Rerun.{AreOnly}
use Rattle.ct_app.specs.RunFiles.{FilesFail, FilesStay, WritesFiles, last_costs}
use Rattle.ct_app.specs.SpecFile.{AreLent}

-- the entries of a history
abbrev pub history_entries : History → List Entry
history_entries history = history.entries.items

-- how the run of a plan ended: complete, with a fault of the sink, or out of memory
abbrev pub PlanEnds : PlanParts → List Entry → SinkTell → SinkTell → Result (Unit {0}) Outcome → Type 0
PlanEnds plan entries before now (Ok done) = IsReported plan entries before now
PlanEnds plan entries before now (Err OutputFault) = IsCutOff plan entries before now
PlanEnds plan entries before now (Err Memory) = IsGivenUp plan entries before now
PlanEnds plan entries before now ended = ⊥

-- success, or the outcome that a fault of the sink means
abbrev pub ended_as : Result (Unit {0}) SinkFault → Result (Unit {0}) Outcome
ended_as (Ok done) = Ok done
ended_as (Err fault) = Err (outcome_of_sink fault)

-- how a run and its files ended:
-- - the run is complete, its files were written, and this is its status;
-- - the run is complete, and a write of a file failed, or memory ran out for the files;
-- - the run ended early with a fault of the sink or out of memory, and the files stay
abbrev pub RunLeaves : Sides → Invocation → PlanParts → List Entry → Result ℕ Outcome → Type 0
RunLeaves s invocation plan entries (Ok status) = IsCompleted s status invocation plan entries
RunLeaves s invocation plan entries (Err (FilesFault path)) =
    IsWriteFault s path plan entries × IsReported plan entries s.sink.before s.sink.after
RunLeaves s invocation plan entries (Err OutputFault) =
    IsCutOff plan entries s.sink.before s.sink.after × FilesStay s.files.before s.files.after
RunLeaves s invocation plan entries (Err Memory) = IsCutShort s plan entries s.sink.after
RunLeaves s invocation plan entries ended = ⊥

-- what became of the files of a run with this end. A complete run wrote them, unless a write failed or memory
-- ran out. A run that ended early left them as they were, and keeps its outcome.
abbrev pub EndsWithFiles : PlanParts
    → List Entry → CostData → FilesTell → FilesTell → Result (Unit {0}) Outcome → Result (Unit {0}) Outcome
    → Type 0
EndsWithFiles plan entries costs before now (Err outcome) ended = (ended ≡ Err outcome) × (now ≡ before)
EndsWithFiles plan entries costs before now (Ok done) (Ok left) =
    WritesFiles plan entries costs before now (Ok left)
EndsWithFiles plan entries costs before now (Ok done) (Err (FilesFault path)) =
    WritesFiles plan entries costs before now (Err (Fault.Failed path))
EndsWithFiles plan entries costs before now (Ok done) (Err Memory) =
    WritesFiles plan entries costs before now (Err Fault.NoMemory)
EndsWithFiles plan entries costs before now (Ok done) ended = ⊥

-- the status of a complete run, or the outcome of one that ended early
abbrev pub with_status : Bool → PlanParts → List Entry → Result (Unit {0}) Outcome → Result ℕ Outcome
with_status empty_is_error plan entries (Ok done) = Ok (status_of empty_is_error plan entries)
with_status empty_is_error plan entries (Err outcome) = Err outcome

-- the tests that an invocation asks for were read, they are fewer than 2 ^ 32 - 1, and the files stay
pub record HasTests (invocation : Invocation) (before now : FilesTell) (tests : Tests) : Type 0 where
  pub read : AreRead before.held invocation tests.defs tests.props
  pub few : length tests.defs < 2 ^ 32 - 1
  pub files : FilesStay before now

-- why the tests were not read: a test file or a property is refused, the files failed at a path,
-- or memory ran out
abbrev pub IsUnread : Invocation → FilesTell → FilesTell → Outcome → Type 0
IsUnread invocation before now (Refused refusal) =
    RefusesReading before.held invocation refusal × FilesStay before now
IsUnread invocation before now (FilesFault path) =
    IfSome before.held (λ held. TreeAsks held invocation.wanted.dir invocation.config path)
    × FilesFail path SameHeld before now
IsUnread invocation before now Memory = FilesStay before now
IsUnread invocation before now outcome = ⊥

-- why what a list needs was not read: a test file or a property is refused, the files failed at a path, or
-- memory ran out
abbrev pub IsUnreadList : Invocation → FilesTell → FilesTell → Outcome → Type 0
IsUnreadList invocation before now (FilesFault path) =
    ListFailsAt before.held invocation path × FilesFail path SameHeld before now
IsUnreadList invocation before now outcome = IsUnread invocation before now outcome

-- the tests that an invocation asks for were read, the file that declares the resources is refused,
-- and the files stay
pub record HasBadSpec (invocation : Invocation) (before now : FilesTell) (refusal : Refusal) : Type 0 where
  pub tests : Tests
  pub read : AreRead before.held invocation tests.defs tests.props
  pub refused : RefusesSpec before.held invocation refusal
  pub files : FilesStay before now

-- why the folder of a run was not read: a test file, a property or the specification is refused, the files
-- failed at a path, or memory ran out
abbrev pub IsUnreadFolder : Invocation → FilesTell → FilesTell → Outcome → Type 0
IsUnreadFolder invocation before now (Refused refusal) =
    IsUnread invocation before now (Refused refusal) ⊎ HasBadSpec invocation before now refusal
IsUnreadFolder invocation before now (FilesFault path) =
    RunFailsAt before.held invocation path × FilesFail path SameHeld before now
IsUnreadFolder invocation before now outcome = IsUnread invocation before now outcome

-- the tests of a list were read, and the names that the list is limited to, if any
pub record IsReadList
    (invocation : Invocation) (before now : FilesTell) (tests : Tests) (only : Option (List (List ℕ)))
    : Type 0 where
  pub read : HasTests invocation before now tests
  pub limits : AreOnly before.held invocation.rerun invocation.wanted.dir only

-- the inputs of a plan beside the tests and the words were read, and the files stay:
-- - the resources that are lent;
-- - the cost data of the last run;
-- - the names that the run is limited to, if any
pub record AreReadInputs
    (invocation : Invocation) (before now : FilesTell) (resources : Option (List Resource)) (costs : CostData)
    (only : Option (List (List ℕ))) : Type 0 where
  pub lent : AreLent before.held invocation.spec_file resources
  pub last : IfSome before.held (λ held. costs ≡ last_costs invocation.wanted.dir held)
  pub limits : AreOnly before.held invocation.rerun invocation.wanted.dir only
  pub files : FilesStay before now

-- the folder of a run was read: the tests, and the other inputs of a plan
pub record IsReadFolder
    (invocation : Invocation) (before now : FilesTell) (tests : Tests) (resources : Option (List Resource))
    (costs : CostData) (only : Option (List (List ℕ))) : Type 0 where
  pub read : HasTests invocation before now tests
  pub inputs : AreReadInputs invocation before now resources costs only

-- why the tests of a folder have no plan, with the names of the tests of a cycle;
-- memory may run out for the names
abbrev pub IsUnplanned : List TestDef → PlanFault → List (List ℕ) → Result ℕ Outcome → Type 0
IsUnplanned defs (Plans.Cycle tests) names ended =
    ((ended ≡ Err (Refused (Cycle tests))) × (names ≡ names_at defs tests)) ⊎ (ended ≡ Err Memory)
IsUnplanned defs Plans.TooManyEdges names ended = ended ≡ Err (Refused TooManyEdges)
IsUnplanned defs Plans.NoMemory names ended = ended ≡ Err Memory

-- nothing was run, and this outcome says why; the tests of a cycle have these names
abbrev pub EndsUnrun : Sides → List (List ℕ) → Result ℕ Outcome → Type 0
EndsUnrun s names (Err (Usage word kind)) = IsUsage s word kind
EndsUnrun s names (Err (Refused refusal)) = IsRefusal s refusal names
EndsUnrun s names (Err (FilesFault path)) = IsReadFault s RunFailsAt path
EndsUnrun s names (Err Memory) = IsUnrun s × FilesStay s.files.before s.files.after
EndsUnrun s names ended = ⊥

-- how a run ended before the line of its outcome is put: a plan was run, or none was made and nothing was put
abbrev pub Ends : Sides → List (List ℕ) → Result ℕ Outcome → Type 0
Ends s names ended =
    HasRunWith s (λ invocation plan entries. RunLeaves s invocation plan entries ended)
    ⊎ (EndsUnrun s names ended × (s.sink.after ≡ s.sink.before))

-- how a run for an invocation ended, for all words that ask for this invocation
abbrev pub EndsFor : Invocation → (List (List ℕ) → Sides) → List (List ℕ) → Result ℕ Outcome → Type 0
EndsFor invocation sides_of names ended =
    (words : List (List ℕ)) → AskFor words invocation → Ends (sides_of words) names ended

-- the outcome of a call whose list ended with this result
abbrev pub listed_as : Result (Unit {0}) SinkFault → Outcome
listed_as (Ok done) = Listed
listed_as (Err fault) = outcome_of_sink fault

-- how a list ended before the line of its outcome is put
abbrev pub ListEnds : Sides → Outcome → Type 0
ListEnds s Completed = ⊥
ListEnds s Listed = HasList s (λ lines. PutsLines lines s.sink.before s.sink.after (Ok tt))
ListEnds s (Usage word kind) = IsUsage s word kind × (s.sink.after ≡ s.sink.before)
ListEnds s (Refused refusal) = IsUnreadable s refusal × (s.sink.after ≡ s.sink.before)
ListEnds s (FilesFault path) = IsReadFault s ListFailsAt path × (s.sink.after ≡ s.sink.before)
ListEnds s OutputFault = HasList s (λ lines. PutsLines lines s.sink.before s.sink.after (Err Sinks.Failed))
ListEnds s Memory =
    IsUnrun s
    × FilesStay s.files.before s.files.after
    × ((s.sink.after ≡ s.sink.before)
    ⊎ HasList s (λ lines. PutsLines lines s.sink.before s.sink.after (Err Sinks.NoMemory)))

-- how a list for an invocation ended, for all words that ask for this invocation
abbrev pub ListEndsFor : Invocation → (List (List ℕ) → Sides) → Outcome → Type 0
ListEndsFor invocation sides_of outcome =
    (words : List (List ℕ)) → AskFor words invocation → ListEnds (sides_of words) outcome

-- the result is the outcome of a list, and there are no names of a cycle
abbrev pub EndsList : Sides → List (List ℕ) → Result ℕ Outcome → Type 0
EndsList s names (Ok status) = ⊥
EndsList s names (Err outcome) = ListEnds s outcome × (names ≡ [])

-- the line of an outcome was put or its put failed,
-- or memory ran out for the line and the outcome answered is Memory
abbrev pub PutsFault : List (List ℕ) → Outcome → Outcome → SinkTell → SinkTell → Type 0
PutsFault names outcome answered before now =
    ((answered ≡ outcome) × PutsOrFails (fault_line names outcome) before now)
    ⊎ ((answered ≡ Memory) × PutsLines (fault_line names outcome ∷ []) before now (Err Sinks.NoMemory))

-- how a call reports an outcome. Where the sink has failed or a list was put, it puts no line and answers
-- the outcome. Else it puts the line, as in `PutsFault`.
abbrev pub ReportsFault : List (List ℕ) → Outcome → Outcome → SinkTell → SinkTell → Type 0
ReportsFault names OutputFault answered before now = (answered ≡ OutputFault) × (now ≡ before)
ReportsFault names Listed answered before now = (answered ≡ Listed) × (now ≡ before)
ReportsFault names outcome answered before now = PutsFault names outcome answered before now

-- how a call reports its end: Completed with the status of the run and no line, or else the outcome that is
-- answered, with the status of that outcome
abbrev pub ReportsEnd : List (List ℕ) → Result ℕ Outcome → Outcome → ℕ → SinkTell → SinkTell → Type 0
ReportsEnd names (Ok status) outcome answered before now =
    (outcome ≡ Completed) × (answered ≡ status) × (now ≡ before)
ReportsEnd names (Err fault) outcome answered before now =
    ReportsFault names fault outcome before now × (answered ≡ fault_status outcome)
