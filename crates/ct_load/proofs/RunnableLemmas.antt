-- The run of a load can be made, so it is completed unless memory runs out.
use Rattle.std.proofs.Common.{◌≡◌, ◌⊎◌, ap, refl, subst, ℕ, ◌≤◌, false, List, [], map, arith, inl, inr}
use Rattle.std.specs.Prelude.{IfSome, Option, Some, None, Ok, codes}
use Rattle.ct_base.specs.declared.defs.Pair.{Pair}
use Rattle.ct_base.specs.Memory.{held_by}
use Rattle.ct_props.specs.declared.wanted.Wanted.{Wanted}
use Rattle.ct_select.specs.Chosen.{chosen_tests}
use Rattle.ct_args.specs.declared.invocation.Invocation.{Invocation}
use Rattle.ct_args.specs.declared.invocation.Task.TheVariants.{Run}
use Rattle.ct_args.specs.Invocation.{invocation_in, invocation_seen, once, usual_limit}
use Rattle.ct_args.specs.Spelling.{said_of, spellings}
use Rattle.ct_args.specs.Values.{level_in}
use Rattle.ct_plan.specs.Source.{Source, run_members, source}
use Rattle.ct_app.specs.declared.outcome.Outcome.TheVariants.{Completed, Memory}
use Rattle.ct_core.specs.ScriptValue.{ScriptValue}
use Rattle.ct_app.specs.Calls.{Sides}
use Rattle.ct_app.specs.Complete.{Completes, IsRunnable}
use Rattle.ct_app.specs.Reading.{reads_list}
use Rattle.ct_app.specs.RunFiles.{last_costs}
use Rattle.ct_load.specs.Tree.{numbers, tree_files}
use Rattle.ct_load.proofs.TreeTests.{load_defs}
use Rattle.ct_load.specs.Load.{CanBeRun, IsLoadCount}
use Rattle.ct_load.specs.Run.{LoadRun, run_sides, run_words}
use Rattle.ct_load.specs.World.{gates_of}
use Rattle.ct_load.proofs.RunLemmas.{sides_with}
use Rattle.ct_load.proofs.TreeReadLemmas.{tree_read}
use Rattle.ct_load.proofs.PropsLemmas.{have_own, load_own}
use Rattle.ct_load.proofs.EdgeLemmas.{few_edges, no_cycle}

-- what the words of a load ask for
abbrev load_wanted : Wanted
load_wanted = record {
  dir = codes ".";
  choice = record { name = None; not_name = None; labels = []; not_labels = []; numbers = None; union = false; keep_any = None; keep_setup = None; keep_cleanup = None; only = None };
  level = 4;
  repeat = once;
  stop_on_failure = false;
}

abbrev load_invocation : Invocation
load_invocation = record { task = Run; wanted = load_wanted; config = []; timeout = usual_limit; spec_file = None; empty_is_error = false; rerun = false }

-- the words of a load ask for a run
words_ask : invocation_in run_words ≡ Ok (invocation_seen load_invocation)
unfolding said_of spellings level_in
words_ask = refl

-- the source of the plan of a load
abbrev load_source : ℕ → Source
load_source count = source (load_defs count) (map load_own (numbers count)) load_wanted None (last_costs (codes ".") (held_by (tree_files count)))

-- the run of a load can be made
pub runnable : (count : ℕ) (run : LoadRun) → 1 ≤ count → count ≤ 100000 → IsRunnable (run_sides count run)
runnable count run some few =
    let edges = few_edges count few load_wanted.choice (chosen_tests (load_defs count) (map load_own (numbers count)) load_wanted.choice) (omega (arith, some)) in
    record {
      invocation = load_invocation;
      words = words_ask;
      held = held_by (tree_files count);
      told = refl;
      source = load_source count;
      read = record {
        tests = record { tree = tree_read count few; have = have_own 1 count (omega (arith, few)) };
        only = refl;
        wanted = refl;
        resources = refl;
        costs = refl;
      };
      few = omega (arith, edges, few);
      no_cycle = no_cycle count few (run_members (load_source count));
    }

-- so a run of a load is completed, unless memory ran out: its files and its sink count no fault
pub completed_or_short : (count : ℕ) (run : LoadRun) → 1 ≤ count → count ≤ 100000 → Completes (run_sides count run) run.outcome → (run.outcome ≡ Completed) ⊎ (run.outcome ≡ Memory)
completed_or_short count run some few complete =
    complete.run (ap reads_list words_ask) (runnable count run some few) (record { files = λ rose. omega (arith, rose); sink = λ rose. omega (arith, rose) })

module _ (count : ℕ) (run : LoadRun) (words : List (List ℕ)) (env files : List Pair) (gates : List ScriptValue) (sink : List ℕ) where
  -- a run of a load ends complete or out of memory
  pub has_no_other_end : words ≡ run_words → env ≡ [] → files ≡ tree_files count → gates ≡ gates_of count → sink ≡ [] → IsLoadCount count → Completes (sides_with run words env files gates sink) run.outcome → (run.outcome ≡ Completed → ⊥) → (run.outcome ≡ Memory → ⊥) → ⊥
  has_no_other_end words_are env_is files_are gates_are sink_is within complete incomplete whole =
      let same : sides_with run words env files gates sink ≡ run_sides count run = λ i. sides_with run (words_are i) (env_is i) (files_are i) (gates_are i) (sink_is i) in
      elim (completed_or_short count run within.0 within.1 (subst (λ (s : Sides). Completes s run.outcome) same complete)) [
        | inl completed ↦ incomplete completed
        | inr short ↦ whole short
      ]

-- a number of tests that is asked for can be run
pub can_be_run : (asked : Option ℕ) → IfSome asked IsLoadCount → IfSome asked CanBeRun
can_be_run None within = tt
can_be_run (Some count) within = λ run. runnable count run within.0 within.1
