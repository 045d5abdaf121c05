-- Accepted words are carried out, unless the files or the sink fail or memory runs out. This holds for all
-- faults that the gates count: the outcome is Completed or Listed, else Memory. This project's own.
use Rattle.std.specs.Prelude.{◌≡◌, ◌⊎◌, ℕ, ◌≤◌, true, false, List, Some}
use Rattle.ct_base.specs.declared.defs.TestDef.{TestDef}
use Rattle.ct_base.specs.Outside.{FilesTell, Held, Rose, SinkTell}
use Rattle.ct_props.specs.declared.props.Props.{Props}
use Rattle.ct_graph.specs.Cycle.{is_cycle}
use Rattle.ct_graph.specs.Order.{most_edges}
use Rattle.ct_args.specs.declared.invocation.Invocation.{Invocation}
use Rattle.ct_plan.specs.Source.{Source, edge_count, members_before}
use Rattle.ct_app.specs.declared.outcome.Outcome.{Outcome}
use Rattle.ct_app.specs.declared.outcome.Outcome.TheVariants.{Completed, Listed, Memory}
use Rattle.ct_app.specs.Calls.{Sides, list_sides}
use Rattle.ct_app.specs.Reading.{AreRead, AskFor, IsSource, ask_for_list}

-- a list can be made: the words are accepted, the files tell what they hold, and the tests and their
-- properties are read without refusal
pub record IsListable (s : Sides) : Type 0 where
  pub invocation : Invocation
  pub words : AskFor s.words invocation
  pub held : Held
  pub told : s.files.before.held ≡ Some held
  pub defs : List TestDef
  pub props : List Props
  pub read : AreRead (Some held) invocation defs props

-- a run can be made:
-- - the words are accepted, and the files tell what they hold;
-- - the tests, their properties and the specification are read without refusal;
-- - there are not too many edges, and no cycle
pub record IsRunnable (s : Sides) : Type 0 where
  pub invocation : Invocation
  pub words : AskFor s.words invocation
  pub held : Held
  pub told : s.files.before.held ≡ Some held
  pub source : Source
  pub read : IsSource (Some held) invocation source
  pub few : edge_count source ≤ most_edges
  pub no_cycle : (tests : List ℕ) → is_cycle (members_before source) tests ≡ false

-- the fault counts of the files and of the sink did not rise; a count at its greatest value counts as risen
pub record IsUnfailed (s : Sides) : Type 0 where
  pub files : Rose s.files.before.faults s.files.after.faults → ⊥
  pub sink : Rose s.sink.before.faults s.sink.after.faults → ⊥

-- a run that can be made is completed where no fault was counted, unless memory ran out
abbrev pub CompletesRun : Sides → Outcome → Type 0
CompletesRun s outcome = IsRunnable s → IsUnfailed s → (outcome ≡ Completed) ⊎ (outcome ≡ Memory)

-- a list that can be made is put where no fault was counted, unless memory ran out
abbrev pub CompletesList : Sides → Outcome → Type 0
CompletesList s outcome = IsListable s → IsUnfailed s → (outcome ≡ Listed) ⊎ (outcome ≡ Memory)

-- the plan of a run that can be made is made where no fault of the files was counted, unless memory ran out
abbrev pub CompletesPlan : List (List ℕ) → FilesTell → FilesTell → Outcome → Type 0
CompletesPlan words before now outcome =
    (sink : SinkTell)
    → IsRunnable (list_sides words before now sink sink)
    → (Rose before.faults now.faults → ⊥)
    → outcome ≡ Memory

-- what the words ask for is carried out where it can be made and no fault was counted, unless memory ran out
pub record Completes (s : Sides) (outcome : Outcome) : Type 0 where
  pub run : ask_for_list s.words ≡ false → CompletesRun s outcome
  pub list : ask_for_list s.words ≡ true → CompletesList s outcome
