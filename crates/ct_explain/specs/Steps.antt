-- The steps of an explanation: the plan, what is found of the journal, and what is reported. This project's
-- own.
use Rattle.std.specs.Prelude.{◌≡◌, ◌⊎◌, ℕ, Bool, List, [], ◌∷◌, Option, Result, Ok, Err, IfSome}
use Rattle.ct_base.specs.declared.sink.SinkFault.TheVariants as Sinks
use Rattle.ct_base.specs.Outside.{FilesTell, SinkTell}
use Rattle.ct_history.specs.declared.plan.PlanParts.{PlanParts}
use Rattle.ct_report.specs.PutLines.{PutsLines}
use Rattle.ct_app.specs.declared.outcome.Outcome.{Outcome}
use Rattle.ct_app.specs.declared.outcome.Outcome.TheVariants as Ends
use Rattle.ct_app.specs.declared.planning.Unplanned.{Unplanned}
use Rattle.ct_app.specs.Calls.{ThenLine, Tries}
use Rattle.ct_app.specs.Ends.{ReportsFault}
use Rattle.ct_app.specs.Outcome.{fault_line, fault_status}
use Rattle.ct_app.specs.Planning.{HasPlan}
use Rattle.ct_app.specs.RunFiles.{FilesStay}
use Rattle.ct_journal.specs.CheckFound.{IsReadOf}
use Rattle.ct_journal.specs.CheckSteps.{IsUnfoundFor, LacksPath}
use Rattle.ct_explain.specs.declared.explain.ExplainOutcome.{ExplainOutcome}
use Rattle.ct_explain.specs.declared.explain.ExplainOutcome.TheVariants as Says
use Rattle.ct_explain.specs.declared.find.Finding.{Finding}
use Rattle.ct_explain.specs.declared.find.Finding.TheVariants.{Told, Refused, TooLong}
use Rattle.ct_explain.specs.declared.find.Found.{Found}
use Rattle.ct_explain.specs.Found.{IsFoundOf, finding_lines}

-- the journal at a path was read, and this was found of it for a plan; each path holds what it held
pub record FindsAt (path : List ℕ) (plan : PlanParts) (before now : FilesTell) (finding : Finding)
    : Type 0 where
  pub found : Option (List ℕ)
  pub read : IfSome before.held (λ held. IsReadOf (held path) found)
  pub is : IsFoundOf plan found finding
  pub files : FilesStay before now

-- the plan of the words was made, and this was found of the journal at a path
pub record FindsFor (path : List ℕ) (words : List (List ℕ)) (before now : FilesTell) (it : Found)
    : Type 0 where
  pub planned : HasPlan words before now it.plan
  pub found : Option (List ℕ)
  pub read : IfSome before.held (λ held. IsReadOf (held path) found)
  pub is : IsFoundOf it.plan found it.finding

-- what the words from the path of the journal on lead to, before any line is put
abbrev pub ExplainLeadsTo : List (List ℕ) → FilesTell → FilesTell → Result Found Unplanned → Type 0
ExplainLeadsTo [] before now (Ok it) = ⊥
ExplainLeadsTo [] before now (Err why) = LacksPath before now why
ExplainLeadsTo (path ∷ words) before now (Ok it) = FindsFor path words before now it
ExplainLeadsTo (path ∷ words) before now (Err why) = IsUnfoundFor path words before now why

-- the outcome and the status where all lines of what was found were put
abbrev pub SaysSo : Finding → ExplainOutcome → ℕ → Type 0
SaysSo (Told story) outcome status = (outcome ≡ Says.Explained) × (status ≡ 0)
SaysSo (Refused line why) outcome status = (outcome ≡ Says.No line) × (status ≡ 9)
SaysSo TooLong outcome status = (outcome ≡ Says.TooLong) × (status ≡ 2)

-- the outcome and the status where the put of a line failed: the line of a journal that is too long is no
-- printed line, and its fault changes nothing
abbrev pub SaysNot : Finding → ExplainOutcome → ℕ → Type 0
SaysNot (Told story) outcome status = (outcome ≡ Says.OutputFault) × (status ≡ 4)
SaysNot (Refused line why) outcome status = (outcome ≡ Says.OutputFault) × (status ≡ 4)
SaysNot TooLong outcome status = (outcome ≡ Says.TooLong) × (status ≡ 2)

-- what is put behind a line for which memory ran out: behind a printed line that of want of memory
abbrev pub IsCutBehind : Finding → SinkTell → SinkTell → Type 0
IsCutBehind (Told story) before now = Tries (fault_line [] Ends.Memory) before now
IsCutBehind (Refused line why) before now = Tries (fault_line [] Ends.Memory) before now
IsCutBehind TooLong before now = now ≡ before

-- the lines of what was found were put, or a put failed, or memory ran out for a line
abbrev pub SaysFound : Bool → PlanParts → Finding → ExplainOutcome → ℕ → SinkTell → SinkTell → Type 0
SaysFound picture plan finding outcome status before now =
    (SaysSo finding outcome status × PutsLines (finding_lines picture plan finding) before now (Ok tt))
    ⊎ (SaysNot finding outcome status
    × PutsLines (finding_lines picture plan finding) before now (Err Sinks.Failed))
    ⊎ ((outcome ≡ Says.Memory)
    × (status ≡ 5)
    × ThenLine (λ middle. PutsLines (finding_lines picture plan finding) before middle (Err Sinks.NoMemory))
    (λ middle. IsCutBehind finding middle now))

-- the outcome of an explanation for the outcome of a run that has no plan
abbrev pub IsExplainOf : Outcome → ExplainOutcome → Type 0
IsExplainOf Ends.Completed outcome = ⊥
IsExplainOf Ends.Listed outcome = ⊥
IsExplainOf (Ends.Usage word kind) outcome = outcome ≡ Says.Usage word kind
IsExplainOf (Ends.Refused refusal) outcome = outcome ≡ Says.Refused refusal
IsExplainOf (Ends.FilesFault path) outcome = outcome ≡ Says.FilesFault path
IsExplainOf Ends.OutputFault outcome = outcome ≡ Says.OutputFault
IsExplainOf Ends.Memory outcome = outcome ≡ Says.Memory

-- why nothing was found was reported, as a run reports it
pub record ReportsNone (why : Unplanned) (outcome : ExplainOutcome) (status : ℕ) (before now : SinkTell)
    : Type 0 where
  pub reported : Outcome
  pub reports : ReportsFault why.names why.outcome reported before now
  pub status_is : status ≡ fault_status reported
  pub is : IsExplainOf reported outcome

-- how an explanation reports what its words led to
abbrev pub ReportsFound : Bool
    → Result Found Unplanned → ExplainOutcome → ℕ → SinkTell → SinkTell → Type 0
ReportsFound picture (Ok it) outcome status before now =
    SaysFound picture it.plan it.finding outcome status before now
ReportsFound picture (Err why) outcome status before now = ReportsNone why outcome status before now
