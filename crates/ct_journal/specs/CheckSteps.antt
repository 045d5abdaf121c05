-- The steps of a check: the plan, what is found of the journal, and what is reported. This project's own.
use Rattle.std.specs.Prelude.{◌≡◌, ◌⊎◌, ⊤, ℕ, List, [], ◌∷◌, Option, Result, Ok, Err, IfSome}
use Rattle.ct_base.specs.declared.sink.SinkFault.TheVariants as Sinks
use Rattle.ct_base.specs.Outside.{FilesTell, SameHeld, SinkTell}
use Rattle.ct_history.specs.declared.plan.PlanParts.{PlanParts}
use Rattle.ct_args.specs.declared.usage.UsageKind.TheVariants.{NoValue}
use Rattle.ct_report.specs.PutLines.{PutsLines}
use Rattle.ct_app.specs.declared.outcome.Outcome.{Outcome}
use Rattle.ct_app.specs.declared.outcome.Outcome.TheVariants as Ends
use Rattle.ct_app.specs.declared.planning.Unplanned.{Unplanned}
use Rattle.ct_app.specs.Calls.{ThenLine, Tries}
use Rattle.ct_app.specs.Ends.{ReportsFault}
use Rattle.ct_app.specs.Outcome.{fault_line, fault_status}
use Rattle.ct_app.specs.Planning.{HasNoPlan, HasPlan}
use Rattle.ct_app.specs.RunFiles.{FilesFail, FilesStay}
use Rattle.ct_journal.specs.declared.check.CheckOutcome.{CheckOutcome}
use Rattle.ct_journal.specs.declared.check.CheckOutcome.TheVariants as Says
use Rattle.ct_journal.specs.declared.check_find.Finding.{Finding}
use Rattle.ct_journal.specs.declared.check_find.Finding.TheVariants.{Accepted, Refused, TooLong}
use Rattle.ct_journal.specs.File.{too_long_line}
use Rattle.ct_journal.specs.CheckFound.{IsFinding, IsReadOf, accepted_line, refused_line}

-- the journal at a path was read, and this was found of it for a plan; each path holds what it held
pub record IsFoundAt (path : List ℕ) (plan : PlanParts) (before now : FilesTell) (finding : Finding)
    : Type 0 where
  pub found : Option (List ℕ)
  pub read : IfSome before.held (λ held. IsReadOf (held path) found)
  pub is : IsFinding plan found finding
  pub files : FilesStay before now

-- nothing was found of the journal at a path: the read failed, or memory ran out
abbrev pub IsUnfound : List ℕ → FilesTell → FilesTell → Outcome → Type 0
IsUnfound path before now outcome =
    ((outcome ≡ Ends.FilesFault path) × FilesFail path SameHeld before now)
    ⊎ ((outcome ≡ Ends.Memory) × FilesStay before now)

-- the plan of the words was made, and this was found of the journal at a path
pub record IsFoundFor (path : List ℕ) (words : List (List ℕ)) (before now : FilesTell) (finding : Finding)
    : Type 0 where
  pub plan : PlanParts
  pub planned : HasPlan words before now plan
  pub found : Option (List ℕ)
  pub read : IfSome before.held (λ held. IsReadOf (held path) found)
  pub is : IsFinding plan found finding

-- the plan of the words was made, and the read of the journal at a path failed
pub record IsUnreadFor (path : List ℕ) (words : List (List ℕ)) (before now : FilesTell) : Type 0 where
  pub plan : PlanParts
  pub middle : FilesTell
  pub planned : HasPlan words before middle plan
  pub files : FilesFail path SameHeld before now

-- why nothing was found: the words have no plan, the read of the journal failed, or memory ran out
abbrev pub IsUnfoundFor : List ℕ → List (List ℕ) → FilesTell → FilesTell → Unplanned → Type 0
IsUnfoundFor path words before now why =
    HasNoPlan words before now why.names why.outcome
    ⊎ ((why.outcome ≡ Ends.FilesFault path) × (why.names ≡ []) × IsUnreadFor path words before now)

-- without any word, the path of the journal is missing, and the files are as before
pub record LacksPath (before now : FilesTell) (why : Unplanned) : Type 0 where
  pub outcome : why.outcome ≡ Ends.Usage 1 NoValue
  pub names : why.names ≡ []
  pub files : now ≡ before

-- what the words of a check lead to, before any line is put
abbrev pub LeadsTo : List (List ℕ) → FilesTell → FilesTell → Result Finding Unplanned → Type 0
LeadsTo [] before now (Ok finding) = ⊥
LeadsTo [] before now (Err why) = LacksPath before now why
LeadsTo (path ∷ words) before now (Ok finding) = IsFoundFor path words before now finding
LeadsTo (path ∷ words) before now (Err why) = IsUnfoundFor path words before now why

-- the outcome is one of a call that is not complete and puts no list
abbrev pub IsUnended : Outcome → Type 0
IsUnended Ends.Completed = ⊥
IsUnended Ends.Listed = ⊥
IsUnended outcome = ⊤

-- the line of what was found
abbrev pub finding_line : Finding → List ℕ
finding_line Accepted = accepted_line
finding_line (Refused line) = refused_line line
finding_line TooLong = too_long_line

-- the outcome and the status where the line of what was found was put
abbrev pub IsSaid : Finding → CheckOutcome → ℕ → Type 0
IsSaid Accepted outcome status = (outcome ≡ Says.Yes) × (status ≡ 0)
IsSaid (Refused line) outcome status = (outcome ≡ Says.No line) × (status ≡ 9)
IsSaid TooLong outcome status = (outcome ≡ Says.TooLong) × (status ≡ 2)

-- the outcome and the status where the put of the line failed: the line of a journal that is too long is no
-- printed line, and its fault changes nothing
abbrev pub IsUnsaid : Finding → CheckOutcome → ℕ → Type 0
IsUnsaid TooLong outcome status = (outcome ≡ Says.TooLong) × (status ≡ 2)
IsUnsaid finding outcome status = (outcome ≡ Says.OutputFault) × (status ≡ 4)

-- what is put behind a line for which memory ran out: behind a printed line that of want of memory
abbrev pub IsCutShortBehind : Finding → SinkTell → SinkTell → Type 0
IsCutShortBehind TooLong before now = now ≡ before
IsCutShortBehind finding before now = Tries (fault_line [] Ends.Memory) before now

-- the line of what was found was put, or the put failed, or memory ran out for it
abbrev pub SaysFinding : Finding → CheckOutcome → ℕ → SinkTell → SinkTell → Type 0
SaysFinding finding outcome status before now =
    (IsSaid finding outcome status × PutsLines (finding_line finding ∷ []) before now (Ok tt))
    ⊎ (IsUnsaid finding outcome status × PutsLines (finding_line finding ∷ []) before now (Err Sinks.Failed))
    ⊎ ((outcome ≡ Says.Memory)
    × (status ≡ 5)
    × ThenLine (λ middle. PutsLines (finding_line finding ∷ []) before middle (Err Sinks.NoMemory)) (λ middle.
    IsCutShortBehind finding middle now))

-- the outcome of a check for the outcome of a run that has no plan
abbrev pub IsCheckOf : Outcome → CheckOutcome → Type 0
IsCheckOf Ends.Completed outcome = ⊥
IsCheckOf Ends.Listed outcome = ⊥
IsCheckOf (Ends.Usage word kind) outcome = outcome ≡ Says.Usage word kind
IsCheckOf (Ends.Refused refusal) outcome = outcome ≡ Says.Refused refusal
IsCheckOf (Ends.FilesFault path) outcome = outcome ≡ Says.FilesFault path
IsCheckOf Ends.OutputFault outcome = outcome ≡ Says.OutputFault
IsCheckOf Ends.Memory outcome = outcome ≡ Says.Memory

-- why nothing was found was reported, as a run reports it
pub record ReportsWhy (why : Unplanned) (outcome : CheckOutcome) (status : ℕ) (before now : SinkTell)
    : Type 0 where
  pub reported : Outcome
  pub reports : ReportsFault why.names why.outcome reported before now
  pub status_is : status ≡ fault_status reported
  pub is : IsCheckOf reported outcome

-- how a check reports what its words led to
abbrev pub ReportsCheck : Result Finding Unplanned → CheckOutcome → ℕ → SinkTell → SinkTell → Type 0
ReportsCheck (Ok finding) outcome status before now = SaysFinding finding outcome status before now
ReportsCheck (Err why) outcome status before now = ReportsWhy why outcome status before now
