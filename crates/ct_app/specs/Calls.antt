-- The values of a call, and why a call does not carry out what its words ask for. This project's own.
use Rattle.std.specs.Prelude.{◌≡◌, ◌⊎◌, ℕ, List, [], ◌∷◌, Option, None, Result, Ok, Err}
use Rattle.ct_base.specs.declared.defs.Pair.{Pair}
use Rattle.ct_base.specs.declared.defs.TestDef.{TestDef}
use Rattle.ct_base.specs.declared.sink.SinkFault.{SinkFault}
use Rattle.ct_base.specs.declared.sink.SinkFault.TheVariants as Sinks
use Rattle.ct_base.specs.Outside.{FilesTell, Held, SameHeld, SinkTell}
use Rattle.ct_props.specs.declared.props.Props.{Props}
use Rattle.ct_history.specs.declared.plan.PlanParts.{PlanParts}
use Rattle.ct_history.specs.declared.history.Entry.{Entry}
use Rattle.ct_core.specs.Gate.{GateTell}
use Rattle.ct_report.specs.PutLines.{PutsLines}
use Rattle.ct_args.specs.declared.usage.UsageKind.{UsageKind}
use Rattle.ct_args.specs.declared.usage.UsageFault.TheVariants.{At}
use Rattle.ct_args.specs.declared.invocation.Invocation.{Invocation}
use Rattle.ct_args.specs.Invocation.{invocation_in}
use Rattle.ct_app.specs.declared.outcome.Refusal.{Refusal}
use Rattle.ct_app.specs.Reading.{AreRead, AskFor, RefusesReading, RefusesSpec}
use Rattle.ct_app.specs.RunFiles.{FilesFail, FilesStay}

-- a value before a call and after it
pub record BeforeAfter (T : Type 0) : Type 0 where
  pub before : T
  pub after : T

-- the values of a call: its words and its environment, what is told of the files, the gates and the sink, and
-- the plan and the history that it returns
pub record Sides : Type 0 where
  pub words : List (List ℕ)
  pub env : List Pair
  pub files : BeforeAfter FilesTell
  pub gates : BeforeAfter (List GateTell)
  pub sink : BeforeAfter SinkTell
  pub plan : Option PlanParts
  pub history : Option (List Entry)

-- the values of a call, as one record
abbrev pub sides : List (List ℕ)
    → List Pair → FilesTell → FilesTell → List GateTell → List GateTell → SinkTell → SinkTell
    → Option PlanParts → Option (List Entry) → Sides
sides words env files_before files_now gates_before gates_now sink_before sink_now plan history = record {
  words = words;
  env = env;
  files = record { before = files_before; after = files_now };
  gates = record { before = gates_before; after = gates_now };
  sink = record { before = sink_before; after = sink_now };
  plan = plan;
  history = history;
}

-- the values of a call that lists: no environment, no gate, no plan, no history
abbrev pub list_sides : List (List ℕ) → FilesTell → FilesTell → SinkTell → SinkTell → Sides
list_sides words files_before files_now sink_before sink_now =
    sides words [] files_before files_now [] [] sink_before sink_now None None

-- a line was put whole by one put, or the put failed and a beginning of the line was written
abbrev pub PutsOrFails : List ℕ → SinkTell → SinkTell → Type 0
PutsOrFails line before now =
    PutsLines (line ∷ []) before now (Ok tt) ⊎ PutsLines (line ∷ []) before now (Err Sinks.Failed)

-- a line was put whole by one put, or the put failed or ran out of memory and a beginning of the
-- line was written
abbrev pub Tries : List ℕ → SinkTell → SinkTell → Type 0
Tries line before now = (result : Result (Unit {0}) SinkFault) × PutsLines (line ∷ []) before now result

-- nothing was run: there is no plan and no history, and the gates are as before
pub record IsUnrun (s : Sides) : Type 0 where
  pub no_plan : s.plan ≡ None
  pub no_history : s.history ≡ None
  pub unasked : s.gates.after ≡ s.gates.before

-- a report was put, and behind it the line of an outcome
pub record ThenLine (report : SinkTell → Type 0) (Line : SinkTell → Type 0) : Type 0 where
  pub middle : SinkTell
  pub first : report middle
  pub line : Line middle

-- this word is the first that is refused, for this reason; the files stay, and nothing was run
pub record IsUsage (s : Sides) (word : ℕ) (kind : UsageKind) : Type 0 where
  pub words : invocation_in s.words ≡ Err (At word kind)
  pub files : FilesStay s.files.before s.files.after
  pub unrun : IsUnrun s

-- a test file or a property is refused; the files stay, and nothing was run
pub record IsUnreadable (s : Sides) (refusal : Refusal) : Type 0 where
  pub invocation : Invocation
  pub words : AskFor s.words invocation
  pub refused : RefusesReading s.files.before.held invocation refusal
  pub files : FilesStay s.files.before s.files.after
  pub unrun : IsUnrun s

-- the tests that the words ask for were read, and the file that declares the resources is refused;
-- the files stay, and nothing was run
pub record IsUndeclared (s : Sides) (refusal : Refusal) : Type 0 where
  pub invocation : Invocation
  pub words : AskFor s.words invocation
  pub defs : List TestDef
  pub props : List Props
  pub read : AreRead s.files.before.held invocation defs props
  pub refused : RefusesSpec s.files.before.held invocation refusal
  pub files : FilesStay s.files.before s.files.after
  pub unrun : IsUnrun s

-- reading failed at this path, where it may fail for the call: what the files hold in front of it is not
-- refused. Each path holds what it held, and nothing was run.
pub record IsReadFault (s : Sides) (FailsAt : Option Held → Invocation → List ℕ → Type 0) (path : List ℕ)
    : Type 0 where
  pub invocation : Invocation
  pub words : AskFor s.words invocation
  pub due : FailsAt s.files.before.held invocation path
  pub files : FilesFail path SameHeld s.files.before s.files.after
  pub unrun : IsUnrun s
