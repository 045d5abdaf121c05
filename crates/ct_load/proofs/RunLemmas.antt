-- What a run of a load is, and what is known of it once it was completed.
use Rattle.std.proofs.Common.{ℕ, ◌≡◌, Bool, true, false, List, [], map, length, subst, sym, ap, ◌∙◌, inl, inr, arith}
use Rattle.std.specs.Prelude.{Option, Some, None, IsSomeAnd, option_map, if◌then◌else◌}
use Rattle.ct_base.specs.declared.defs.Pair.{Pair}
use Rattle.ct_base.specs.Outside.{SinkTell}
use Rattle.ct_history.specs.declared.plan.PlanParts.{PlanParts}
use Rattle.ct_history.specs.declared.history.Entry.{Entry}
use Rattle.ct_core.specs.ScriptValue.{ScriptValue, told_of_script}
use Rattle.ct_app.specs.declared.outcome.Outcome.TheVariants.{Completed}
use Rattle.ct_app.specs.Answers.{Answers}
use Rattle.ct_app.specs.Calls.{Sides, sides}
use Rattle.ct_app.specs.Complete.{Completes}
use Rattle.ct_app.specs.Ends.{history_entries}
use Rattle.ct_app.specs.MeantRuns.{AnswersAsMeant, RanAsMeant}
use Rattle.ct_app.specs.Outcome.{is_failed}
use Rattle.ct_app.specs.Run.{OthersStay}
use Rattle.ct_load.specs.Tree.{tree_files}
use Rattle.ct_load.specs.World.{gates_of}
use Rattle.ct_load.specs.Load.{EndsEarly, LoadsTests}
use Rattle.ct_load.specs.Run.{IsLoadRun, LoadRun, calm_files, calm_sink, run_sides, run_words}

-- the values of a run that began with these words, variables, files, gates and sink
abbrev pub sides_with : LoadRun → List (List ℕ) → List Pair → List Pair → List ScriptValue → List ℕ → Sides
sides_with run words env files gates sink = sides words env (calm_files files) (calm_files run.files) (map told_of_script gates) (map told_of_script run.gates.items) (calm_sink sink) (calm_sink run.sink) run.plan (option_map history_entries run.history)

module _ (count : ℕ) (run : LoadRun) (words : List (List ℕ)) (env files : List Pair) (gates : List ScriptValue) (sink : List ℕ) where
  pub completed_run : words ≡ run_words → env ≡ [] → files ≡ tree_files count → gates ≡ gates_of count →
      sink ≡ [] → run.outcome ≡ Completed →
      Answers (sides_with run words env files gates sink) run.outcome run.status →
      AnswersAsMeant (sides_with run words env files gates sink) run.outcome run.status →
      Completes (sides_with run words env files gates sink) run.outcome →
      length run.gates.items ≡ length gates → OthersStay run.plan gates run.gates.items → IsLoadRun count run
  completed_run words_are env_is files_are gates_are sink_is completed answer meant complete all others =
      let same : sides_with run words env files gates sink ≡ run_sides count run = λ i. sides_with run (words_are i) (env_is i) (files_are i) (gates_are i) (sink_is i) in
      record {
        completed = completed;
        meant = subst (λ (s : Sides). AnswersAsMeant s run.outcome run.status) same meant completed;
        answer = subst (λ (s : Sides). Answers s run.outcome run.status) same answer;
        complete = subst (λ (s : Sides). Completes s run.outcome) same complete;
        all = all ∙ ap (λ gs. length gs) gates_are;
        others = subst (λ (gs : List ScriptValue). OthersStay run.plan gs run.gates.items) gates_are others;
      }

status_not_one : (failed : Bool) (status : ℕ) → status ≡ (if failed then 8 else 0) → status ≡ 1 → ⊥
status_not_one true status is one = omega (arith, is, one)
status_not_one false status is one = omega (arith, is, one)

-- the status of a completed run is 0 or 8
pub ran_not_one : (plan : Option PlanParts) (history : Option (List Entry)) (s : Sides) (status : ℕ) →
    IsSomeAnd plan (λ p. IsSomeAnd history (λ es. RanAsMeant s status p es)) → status ≡ 1 → ⊥
ran_not_one None history s status never one = never
ran_not_one (Some plan) None s status never one = never
ran_not_one (Some plan) (Some entries) s status ran one = status_not_one (is_failed ran.invocation.empty_is_error plan entries) status ran.completed.is one

-- a load without a run, since memory was wanting
pub short_load : (count : ℕ) (before now : SinkTell) (run : Option LoadRun) (status : ℕ) → run ≡ None →
    status ≡ 5 → EndsEarly count before now → LoadsTests count before now run status
short_load count before now run status none five short = subst (λ (r : Option LoadRun). LoadsTests count before now r status) (sym none) (short, five)

-- a load of a number of tests never has the status 1
pub load_not_one : (count : ℕ) (before now : SinkTell) (run : Option LoadRun) (status : ℕ) →
    LoadsTests count before now run status → status ≡ 1 → ⊥
load_not_one count before now (Some run) status (inl whole) one = ran_not_one run.plan (option_map history_entries run.history) (run_sides count run) run.status whole.shown.ran.meant (sym whole.is ∙ one)
load_not_one count before now (Some run) status (inr cut) one = omega (arith, cut.is, one)
load_not_one count before now None status (short, five) one = omega (arith, five, one)
