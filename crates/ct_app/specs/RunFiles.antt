-- The cost data and the log: a run reads the files of the last run and writes them for the next one.
-- Source: CMake manual, ctest(1), --rerun-failed; cmake-properties(7), COST. The paths are ctest's. How much
-- of the cost data is read, and when both files are written, is this project's choice.
use Rattle.std.specs.Prelude.{◌≡◌, ◌≢◌, ◌⊎◌, ⊤, ℕ, ◌<◌, nat_le, true, List, [], ◌∷◌, length, codes, Option, Some, None, Result, Ok, Err, IfSome, if◌then◌else◌}
use Rattle.ct_base.specs.declared.files.FilesFault.{FilesFault}
use Rattle.ct_base.specs.declared.files.FilesFault.TheVariants as Files
use Rattle.ct_base.specs.Outside.{Becomes, FailsToWrite, FilesTell, Held, Rose, SameHeld, Writes}
use Rattle.ct_base.specs.Path.{joined}
use Rattle.ct_history.specs.declared.plan.PlanTest.{PlanTest}
use Rattle.ct_history.specs.declared.plan.PlanParts.{PlanParts}
use Rattle.ct_history.specs.declared.history.Entry.{Entry}
use Rattle.ct_history.specs.Legal.{has_failing}
use Rattle.ct_cost.specs.declared.cost_data.CostData.{CostData}
use Rattle.ct_cost.specs.After.{failed_log_text}
use Rattle.ct_cost.specs.Costs.{costs_after, costs_in, costs_text}
use Rattle.ct_app.specs.declared.run_files.RunFileFault.{RunFileFault}
use Rattle.ct_app.specs.declared.run_files.RunFileFault.TheVariants as Fault
use Rattle.ct_app.specs.declared.run_files.TheConstants.{MOST_COST_BYTES}

-- no call on the files failed, and `Change` holds between what the files held before and now
pub record FilesServe (Change : Held → Held → Type 0) (before now : FilesTell) : Type 0 where
  pub held : Becomes before.held now.held Change
  pub unrefused : now.refused ≡ before.refused
  pub unfailed : now.faults ≡ before.faults

-- no call on the files failed, and each path holds what it held
abbrev pub FilesStay : FilesTell → FilesTell → Type 0
FilesStay before now = FilesServe SameHeld before now

-- the last failed call on the files was on this path, which files that told such a path still tell; the fault
-- count rose, and `Change` holds between what the files held before and now
pub record FilesFail (path : List ℕ) (Change : Held → Held → Type 0) (before now : FilesTell) : Type 0 where
  pub held : Becomes before.held now.held Change
  pub told : Becomes before.refused now.refused (λ was last. ⊤)
  pub last : IfSome now.refused (λ refused. refused ≡ Some path)
  pub rose : Rose before.faults now.faults

-- the path of the cost data, for the folder of a run
abbrev pub costs_path : List ℕ → List ℕ
costs_path dir = joined dir (codes "Testing/Temporary/CTestCostData.txt")

-- the path of the log of the failed tests, for the folder of a run
abbrev pub log_path : List ℕ → List ℕ
log_path dir = joined dir (codes "Testing/Temporary/LastTestsFailed.log")

-- the greatest number of bytes of cost data that counts
abbrev pub most_cost_bytes : ℕ
most_cost_bytes = MOST_COST_BYTES

-- the cost data in the text at a path; where the text is absent or too long, the cost data of an empty text
abbrev pub costs_of : Option (List ℕ) → CostData
costs_of None = costs_in []
costs_of (Some text) = if nat_le (length text) most_cost_bytes then costs_in text else costs_in []

-- the cost data that the last run left in a folder
abbrev pub last_costs : List ℕ → Held → CostData
last_costs dir held = costs_of (held (costs_path dir))

-- the text of the cost file after a run that began with this cost data
abbrev pub new_costs : PlanParts → List Entry → CostData → List ℕ
new_costs plan entries costs = costs_text (costs_after plan entries costs)

-- the cost file holds the cost data after the run. The log holds the tests of the failing class if there are
-- any, else what it held. Each other path holds what it held.
pub record LeavesBoth (plan : PlanParts) (entries : List Entry) (costs : CostData) (before now : Held)
    : Type 0 where
  pub cost_file : now (costs_path plan.dir) ≡ Some (new_costs plan entries costs)
  pub log : now (log_path plan.dir)
      ≡ (if has_failing plan entries then Some (failed_log_text plan entries) else before (log_path plan.dir))
  pub others :
      (path : List ℕ) → path ≢ costs_path plan.dir → path ≢ log_path plan.dir → now path ≡ before path

-- what a completed run of these tests of a plan leaves; without tests each path holds what it held
abbrev pub LeavesFor : List PlanTest → PlanParts → List Entry → CostData → Held → Held → Type 0
LeavesFor [] plan entries costs before now = SameHeld before now
LeavesFor (test ∷ tests) plan entries costs before now = LeavesBoth plan entries costs before now

-- what a completed run of a plan leaves in the files
abbrev pub Leaves : PlanParts → List Entry → CostData → Held → Held → Type 0
Leaves plan entries costs before now = LeavesFor plan.tests plan entries costs before now

-- the path is the cost file's, the write of the cost file failed, and no other path changed
pub record TearsCosts
    (plan : PlanParts) (entries : List Entry) (path : List ℕ) (costs : CostData) (before now : Held)
    : Type 0 where
  pub named : path ≡ costs_path plan.dir
  pub torn : FailsToWrite path (new_costs plan entries costs) before now

-- some test failed, the cost file was written, then the write of the log failed, and no other path changed
pub record TearsLog
    (plan : PlanParts) (entries : List Entry) (path : List ℕ) (costs : CostData) (before now : Held)
    : Type 0 where
  pub named : path ≡ log_path plan.dir
  pub due : has_failing plan entries ≡ true
  pub between : Held
  pub written : Writes (costs_path plan.dir) (new_costs plan entries costs) before between
  pub torn : FailsToWrite path (failed_log_text plan entries) between now

-- a complete run writes the file at this path: the cost file, if the plan has tests; or the log,
-- if a test failed
abbrev pub IsWritten : PlanParts → List Entry → List ℕ → Type 0
IsWritten plan entries path =
    ((path ≡ costs_path plan.dir) × (0 < length plan.tests))
    ⊎ ((path ≡ log_path plan.dir) × (has_failing plan entries ≡ true))

-- the write of one of the two files failed, in a run that has tests
abbrev pub LeavesTorn : PlanParts → List Entry → List ℕ → CostData → Held → Held → Type 0
LeavesTorn plan entries path costs before now =
    (0 < length plan.tests)
    × (TearsCosts plan entries path costs before now ⊎ TearsLog plan entries path costs before now)

-- memory ran out for the two files: each path holds what it held,
-- or only the cost file was written though a test failed
abbrev pub LeavesPart : PlanParts → List Entry → CostData → Held → Held → Type 0
LeavesPart plan entries costs before now =
    SameHeld before now
    ⊎ ((has_failing plan entries ≡ true)
    × Writes (costs_path plan.dir) (new_costs plan entries costs) before now)

-- `Change` holds for the cost data that the last run left in this folder
abbrev pub WithLast : List ℕ → (CostData → Held → Held → Type 0) → Held → Held → Type 0
WithLast dir Change before now = Change (last_costs dir before) before now

-- the fault of a call on the files about this path
abbrev pub file_fault_at : List ℕ → FilesFault → RunFileFault
file_fault_at path Files.Failed = Fault.Failed path
file_fault_at path Files.NoMemory = Fault.NoMemory

-- the cost data of the last run was read, or could not be read or memory ran out;
-- each path holds what it held
abbrev pub ReadsCosts : List ℕ → FilesTell → FilesTell → Result CostData RunFileFault → Type 0
ReadsCosts dir before now (Ok costs) =
    IfSome before.held (λ held. costs ≡ last_costs dir held) × FilesStay before now
ReadsCosts dir before now (Err (Fault.Failed path)) =
    (path ≡ costs_path dir) × FilesFail path SameHeld before now
ReadsCosts dir before now (Err Fault.NoMemory) = FilesStay before now

-- a text was written to a path; or the write failed there; or memory ran out and each path holds what it held
abbrev pub WritesText : List ℕ → List ℕ → FilesTell → FilesTell → Result (Unit {0}) RunFileFault → Type 0
WritesText path text before now (Ok done) = FilesServe (Writes path text) before now
WritesText path text before now (Err (Fault.Failed failed)) =
    (failed ≡ path) × FilesFail failed (FailsToWrite path text) before now
WritesText path text before now (Err Fault.NoMemory) = FilesStay before now

-- the result of a call without its value: success, or the fault
abbrev pub done_of : {T E : Type 0} → Result T E → Result (Unit {0}) E
done_of (Ok given) = Ok tt
done_of (Err fault) = Err fault

-- the files of a run were written, or the write of one failed, or memory ran out
abbrev pub WritesFiles : PlanParts
    → List Entry → CostData → FilesTell → FilesTell → Result (Unit {0}) RunFileFault → Type 0
WritesFiles plan entries costs before now (Ok done) = FilesServe (Leaves plan entries costs) before now
WritesFiles plan entries costs before now (Err (Fault.Failed path)) =
    IsWritten plan entries path × FilesFail path (LeavesTorn plan entries path costs) before now
WritesFiles plan entries costs before now (Err Fault.NoMemory) =
    FilesServe (LeavesPart plan entries costs) before now
