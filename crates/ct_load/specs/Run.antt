-- The run of a load, and what is promised of it: all that a call of ctest promises. This project's own.
use Rattle.std.specs.Prelude.{◌≡◌, ℕ, List, [], ◌∷◌, true, map, length, codes, Some, None, IsSomeAnd, option_map}
use Rattle.ct_base.specs.declared.defs.Pair.{Pair}
use Rattle.ct_base.specs.Memory.{held_by}
use Rattle.ct_base.specs.Outside.{FilesTell, SinkTell}
use Rattle.ct_history.specs.Verdicts.{are_all_final}
use Rattle.ct_core.specs.ScriptValue.{ScriptValue, told_of_script}
use Rattle.ct_app.specs.declared.outcome.Finished.{Finished}
use Rattle.ct_app.specs.declared.outcome.Outcome.TheVariants.{Completed}
use Rattle.ct_app.specs.Answers.{Answers}
use Rattle.ct_app.specs.Calls.{Sides, sides}
use Rattle.ct_app.specs.Complete.{Completes}
use Rattle.ct_app.specs.Ends.{history_entries}
use Rattle.ct_app.specs.MeantRuns.{HasRunAsMeant}
use Rattle.ct_app.specs.Run.{OthersStay}
use Rattle.ct_load.specs.Tree.{tree_files}
use Rattle.ct_load.specs.World.{load_gate_count, gates_of}

-- what a run over files, gates and a sink in memory returns
abbrev pub LoadRun : Type 0
LoadRun = Finished (List Pair) ScriptValue (List ℕ)

-- the words of the run of a load
abbrev pub run_words : List (List ℕ)
run_words = codes "-j" ∷ codes "4" ∷ []

-- what files in memory that never fail tell: all that they hold
abbrev pub calm_files : List Pair → FilesTell
calm_files pairs = record { held = Some (held_by pairs); refused = Some None; faults = 0 }

-- what a sink in memory that never fails tells: all that was written
abbrev pub calm_sink : List ℕ → SinkTell
calm_sink written = record { written = Some written; pieces = None; faults = 0 }

-- the values of the run of `count` tests. The run begins with the tree alone, gates of its world, an empty
-- sink and no environment.
abbrev pub run_sides : ℕ → LoadRun → Sides
run_sides count run = sides run_words [] (calm_files (tree_files count)) (calm_files run.files)
    (map told_of_script (gates_of count)) (map told_of_script run.gates.items)
    (calm_sink []) (calm_sink run.sink)
    run.plan (option_map history_entries run.history)

-- plan and history of a run are there, and each of its tests is final
abbrev pub IsFinal : LoadRun → Type 0
IsFinal run = IsSomeAnd run.plan (λ plan. IsSomeAnd run.history (λ history.
    are_all_final plan (history_entries history) ≡ true))

-- a run of `count` tests was completed, ended as is meant, and is all that a call of ctest promises
pub record IsLoadRun (count : ℕ) (run : LoadRun) : Type 0 where
  pub completed : run.outcome ≡ Completed
  pub meant : HasRunAsMeant (run_sides count run) run.status
  pub answer : Answers (run_sides count run) run.outcome run.status
  pub complete : Completes (run_sides count run) run.outcome
  pub all : length run.gates.items ≡ load_gate_count
  pub others : OthersStay run.plan (gates_of count) run.gates.items
