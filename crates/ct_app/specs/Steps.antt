-- What the steps of a run read, plan and write. This project's own.
use Rattle.std.specs.Prelude.{◌≡◌, ℕ, Bool, true, false, List, [], ◌∷◌, Result, Ok, Err}
use Rattle.ct_base.specs.Outside.{FilesTell, SameHeld}
use Rattle.ct_graph.specs.Order.{most_edges}
use Rattle.ct_args.specs.declared.invocation.Invocation.{Invocation}
use Rattle.ct_plan.specs.declared.fault.PlanFault.{PlanFault}
use Rattle.ct_plan.specs.PlanOf.{IsPlanAnswer}
use Rattle.ct_plan.specs.Source.{Source}
use Rattle.ct_app.specs.declared.outcome.Outcome.{Outcome}
use Rattle.ct_app.specs.declared.outcome.Outcome.TheVariants.{Refused, FilesFault, Memory}
use Rattle.ct_app.specs.declared.run_files.RunFileFault.{RunFileFault}
use Rattle.ct_app.specs.Ends.{IsUnplanned}
use Rattle.ct_app.specs.Reading.{InputsFailAt, RefusesSpec}
use Rattle.ct_app.specs.RunFiles.{FilesFail, FilesStay, WritesText, log_path}

-- why the inputs of a plan beside the tests and the words were not read: the specification is refused, the
-- files failed at a path, or memory ran out
abbrev pub AreUnreadInputs : Invocation → FilesTell → FilesTell → Outcome → Type 0
AreUnreadInputs invocation before now (Refused refusal) =
    RefusesSpec before.held invocation refusal × FilesStay before now
AreUnreadInputs invocation before now (FilesFault path) =
    InputsFailAt before.held invocation path × FilesFail path SameHeld before now
AreUnreadInputs invocation before now Memory = FilesStay before now
AreUnreadInputs invocation before now outcome = ⊥

-- a source has no plan, and this outcome says why; the tests of a cycle have these names
abbrev pub IsUnplannedSource : Source → List (List ℕ) → Outcome → Type 0
IsUnplannedSource source names outcome =
    (fault : PlanFault)
    × IsPlanAnswer most_edges source (Err fault)
    × IsUnplanned source.defs fault names (Err outcome)

-- a log was written, if it names a test, and the result says whether it does; or the write failed, or memory
-- ran out for it and each path holds what it held
abbrev pub WritesLog : List ℕ → List ℕ → FilesTell → FilesTell → Result Bool RunFileFault → Type 0
WritesLog dir [] before now result = (result ≡ Ok false) × (now ≡ before)
WritesLog dir (byte ∷ bytes) before now (Ok logged) =
    (logged ≡ true) × WritesText (log_path dir) (byte ∷ bytes) before now (Ok tt)
WritesLog dir (byte ∷ bytes) before now (Err fault) =
    WritesText (log_path dir) (byte ∷ bytes) before now (Err fault)
