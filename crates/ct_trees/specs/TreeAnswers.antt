-- How a call over several trees ended, and what it answers: what was read, run, asked and written.
-- This project's own.
use Rattle.std.specs.Prelude.{◌≡◌, ◌⊎◌, ℕ, List, [], Option, None, Result, Err}
use Rattle.ct_base.specs.declared.defs.Pair.{Pair}
use Rattle.ct_base.specs.Outside.{FilesTell, SinkTell}
use Rattle.ct_history.specs.declared.plan.PlanParts.{PlanParts}
use Rattle.ct_history.specs.declared.history.Entry.{Entry}
use Rattle.ct_args.specs.declared.usage.UsageFault.{UsageFault}
use Rattle.ct_args.specs.declared.invocation.Invocation.{Invocation}
use Rattle.ct_args.specs.Read.{IsFirstFault}
use Rattle.ct_plan.specs.declared.whole.Tree.{Tree}
use Rattle.ct_app.specs.declared.outcome.Outcome.{Outcome}
use Rattle.ct_app.specs.declared.outcome.Outcome.TheVariants.{Completed, Listed, Usage, Refused, FilesFault, OutputFault, Memory}
use Rattle.ct_app.specs.Ends.{ReportsEnd}
use Rattle.ct_app.specs.Outcome.{outcome_of_usage}
use Rattle.ct_app.specs.RunFiles.{FilesStay}
use Rattle.ct_trees.specs.declared.tree_run.RunTerms.{RunTerms}
use Rattle.ct_trees.specs.TreeWords.{trees_in}
use Rattle.ct_trees.specs.Trees.{AskForTrees, HaveTrees}
use Rattle.ct_trees.specs.Planning.{LackPlans}
use Rattle.ct_trees.specs.TreeRuns.{RunSides, RunsTrees}

-- what a call over several trees returns beside its end: the tree that it names, the plan of each tree that
-- has one, the whole plan, and the history
pub record TreesMade : Type 0 where
  pub tree : Option ℕ
  pub plans : List PlanParts
  pub whole : Option PlanParts
  pub history : Option (List Entry)

-- no whole plan was made, and no gate was asked, and nothing was put
pub record IsUnrunCall (s : RunSides) (made : TreesMade) : Type 0 where
  pub no_plan : made.whole ≡ None
  pub no_history : made.history ≡ None
  pub gates : s.gates.after ≡ s.gates.before
  pub sink : s.sink.after ≡ s.sink.before

-- the words are refused, and nothing was read
pub record IsRefusedCall
    (words : List (List ℕ)) (s : RunSides) (made : TreesMade) (ended : Result ℕ Outcome) : Type 0 where
  pub fault : UsageFault
  pub first : IsFirstFault (trees_in words) fault
  pub is : ended ≡ Err (outcome_of_usage fault)
  pub files : s.files.after ≡ s.files.before
  pub no_tree : made.tree ≡ None
  pub no_plans : made.plans ≡ []
  pub unrun : IsUnrunCall s made

-- the trees in these folders are not all planned
pub record IsUnplannedCall
    (dirs : List (List ℕ)) (invocation : Invocation) (s : RunSides) (made : TreesMade)
    (names : List (List ℕ)) (ended : Result ℕ Outcome) : Type 0 where
  pub outcome : Outcome
  pub is : ended ≡ Err outcome
  pub lack : LackPlans invocation dirs s.files.before s.files.after made.plans made.tree names outcome
  pub unrun : IsUnrunCall s made

-- the trees in these folders were read and planned, which the files let stand, and then they ran
pub record IsRunCall
    (dirs : List (List ℕ)) (invocation : Invocation) (own : List Pair) (s : RunSides) (made : TreesMade)
    (ended : Result ℕ Outcome) : Type 0 where
  pub trees : List Tree
  pub read : HaveTrees s.files.before.held invocation dirs trees
  pub between : FilesTell
  pub stay : FilesStay s.files.before between
  pub run : RunTerms
  pub own_is : run.own.now ≡ own
  pub limit : run.timeout ≡ invocation.timeout
  pub empty : run.empty_is_error ≡ invocation.empty_is_error
  pub ran :
      RunsTrees
      (record { files = record { before = between; after = s.files.after }; gates = s.gates; sink = s.sink })
      run trees made.plans made.whole made.history made.tree ended

-- how the call ended for these folders and this invocation
abbrev pub EndsForDirs : List (List ℕ)
    → Invocation → List Pair → RunSides → TreesMade → List (List ℕ) → Result ℕ Outcome → Type 0
EndsForDirs dirs invocation own s made names ended =
    IsUnplannedCall dirs invocation s made names ended ⊎ IsRunCall dirs invocation own s made ended

-- the words ask for the trees in some folders, and the call ended so for them
pub record IsAskedCall
    (words : List (List ℕ)) (own : List Pair) (s : RunSides) (made : TreesMade) (names : List (List ℕ))
    (ended : Result ℕ Outcome) : Type 0 where
  pub dirs : List (List ℕ)
  pub invocation : Invocation
  pub words_are : AskForTrees words dirs invocation
  pub ends : EndsForDirs dirs invocation own s made names ended

-- how a call over several trees ended, before the line of its outcome is put
abbrev pub EndsTrees : List (List ℕ)
    → List Pair → RunSides → TreesMade → List (List ℕ) → Result ℕ Outcome → Type 0
EndsTrees words own s made names ended =
    IsRefusedCall words s made ended ⊎ IsAskedCall words own s made names ended

-- the tree that is named where the call has this outcome
abbrev pub place_for : Outcome → Option ℕ → Option ℕ
place_for Completed place = None
place_for Listed place = None
place_for (Usage word kind) place = None
place_for (Refused refusal) place = place
place_for (FilesFault path) place = place
place_for OutputFault place = None
place_for Memory place = None

-- what a call over several trees answers: it ended so, and then the line of its outcome was put, if any
pub record AnswersTrees
    (words : List (List ℕ)) (own : List Pair) (s : RunSides) (made : TreesMade) (outcome : Outcome)
    (status : ℕ) : Type 0 where
  pub place : Option ℕ
  pub names : List (List ℕ)
  pub ended : Result ℕ Outcome
  pub middle : SinkTell
  pub ends : EndsTrees words own
      (record { files = s.files; gates = s.gates; sink = record { before = s.sink.before; after = middle } })
      (record { tree = place; plans = made.plans; whole = made.whole; history = made.history }) names ended
  pub reported : ReportsEnd names ended outcome status middle s.sink.after
  pub tree_is : made.tree ≡ place_for outcome place
