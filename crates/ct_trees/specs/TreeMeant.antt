-- What the run of several trees is meant to come to for each of them. Its verdicts and its summary depend on
-- the tree's own tests and on the answers for them alone. This project's own, after CMake manual, ctest(1).
use Rattle.std.specs.Prelude.{◌≡◌, ⊤, ℕ, ◌+◌, true, false, List, [], ◌∷◌, length, map, Option, IsSomeAnd}
use Rattle.ct_base.specs.declared.defs.Resource.{Resource}
use Rattle.ct_base.specs.declared.defs.TestDef.{TestDef}
use Rattle.ct_base.specs.Outside.{Held}
use Rattle.ct_props.specs.declared.props.Props.{Props}
use Rattle.ct_props.specs.Numbered.{at_number}
use Rattle.ct_verdict.specs.declared.attempt.Seen.{Seen}
use Rattle.ct_history.specs.declared.plan.PlanParts.{PlanParts}
use Rattle.ct_history.specs.declared.history.Entry.{Entry}
use Rattle.ct_history.specs.Legal.{IsComplete, is_legal}
use Rattle.ct_core.specs.declared.gate.Told.{Told}
use Rattle.ct_core.specs.Gate.{told}
use Rattle.ct_args.specs.declared.invocation.Invocation.{Invocation}
use Rattle.ct_args.specs.Invocation.{InvocationValue, invocation_seen}
use Rattle.ct_plan.specs.declared.whole.Tree.{Tree}
use Rattle.ct_plan.specs.Whole.{IsWholePlan}
use Rattle.ct_app.specs.declared.outcome.Outcome.{Outcome}
use Rattle.ct_app.specs.declared.outcome.Outcome.TheVariants.{Completed}
use Rattle.ct_app.specs.Meant.{AreMeant, AreSeen}
use Rattle.ct_app.specs.MeantTold.{AllTell, seen_as_told}
use Rattle.ct_trees.specs.TreeAnswers.{TreesMade}
use Rattle.ct_trees.specs.TreeReports.{rest_of, tree_part, tree_summary}
use Rattle.ct_trees.specs.TreeRuns.{RunSides}
use Rattle.ct_trees.specs.TreeStops.{AreReported}
use Rattle.ct_trees.specs.Trees.{AskForTrees, HaveTrees, IsTreeIn, plans_of}

-- what a world tells of the attempts of a tree's tests, by the tree's own numbers, where so many tests of
-- other trees stand in front
abbrev pub told_behind : List Told → ℕ → ℕ → ℕ → Told
told_behind world offset test attempt = told world (test + offset) attempt

-- what is seen of each attempt of tests with these properties, where this is told of it
abbrev pub seen_by : List Props → (ℕ → ℕ → Told) → ℕ → ℕ → Seen
seen_by props answers test attempt = seen_as_told (at_number props test) (answers test attempt)

-- the tree defines these tests, and was planned for what is wanted with these resources. The folder and the
-- files in which it was read, and its cost data, count for nothing.
pub record IsTreeFor
    (wanted : InvocationValue) (lent : Option (List Resource)) (defs : List TestDef) (tree : Tree) : Type 0
  where
    pub invocation : Invocation
    pub asks : invocation_seen invocation ≡ wanted
    pub held : Option Held
    pub dir : List ℕ
    pub is : IsTreeIn held invocation lent dir tree
    pub defines : tree.defs ≡ defs

-- a run of the tree to its end: the history is legal and complete for the tree's own plan
pub record IsTreeRun (tree : Tree) (entries : List Entry) : Type 0 where
  pub legal : is_legal tree.plan entries ≡ true
  pub complete : IsComplete tree.plan entries

-- each run to its end of a tree that defines these tests has this summary, alone or beside other trees, where
-- what is wanted of each tree and the resources are these, and each End saw what these answers tell
abbrev pub IsSummaryOf : InvocationValue
    → Option (List Resource) → List TestDef → (ℕ → ℕ → Told) → List (List ℕ) → Type 0
IsSummaryOf wanted lent defs answers summary =
    (tree : Tree) (entries : List Entry)
    → IsTreeFor wanted lent defs tree → IsTreeRun tree entries → AreSeen (seen_by tree.props answers) entries
    → tree_summary tree.plan entries ≡ summary

-- in the part of a tree, each End saw what the answers tell of its attempt. The part has the verdicts that
-- are meant for the tree's own plan, and the summary that each run to its end with these answers has.
pub record PartIsMeant
    (wanted : InvocationValue) (lent : Option (List Resource)) (tree : Tree) (answers : ℕ → ℕ → Told)
    (part : List Entry) : Type 0 where
  pub seen : AreSeen (seen_by tree.props answers) part
  pub verdicts : AreMeant tree.plan (seen_by tree.props answers) part
  pub summary : IsSummaryOf wanted lent tree.defs answers (tree_summary tree.plan part)

-- the part of each of these trees is a run of it to its end; so many tests of other trees stand in front of
-- the first one
abbrev pub PartsAreRuns : List Entry → ℕ → List Tree → Type 0
PartsAreRuns entries offset [] = ⊤
PartsAreRuns entries offset (tree ∷ trees) =
    IsTreeRun tree (tree_part offset (rest_of tree) entries)
    × PartsAreRuns entries (offset + length tree.defs) trees

-- the parts of these trees are as meant in this world; so many tests of other trees stand in front of the
-- first one
abbrev pub PartsAreMeant : InvocationValue
    → Option (List Resource) → List Told → List Entry → ℕ → List Tree → Type 0
PartsAreMeant wanted lent world entries offset [] = ⊤
PartsAreMeant wanted lent world entries offset (tree ∷ trees) =
    PartIsMeant wanted lent tree (told_behind world offset) (tree_part offset (rest_of tree) entries)
    × PartsAreMeant wanted lent world entries (offset + length tree.defs) trees

-- the trees that the words ask for were read, with the plans of the call; their run by the whole plan was
-- complete, and its report was put. Without --stop-on-failure:
-- - the part of each tree is a run of it to its end, whatever the gates tell;
-- - where all gates tell one world, each part is as meant in this world.
pub record RanTreesAsMeant
    (words : List (List ℕ)) (s : RunSides) (plans : List PlanParts) (whole : PlanParts) (entries : List Entry)
    : Type 0 where
  pub dirs : List (List ℕ)
  pub invocation : Invocation
  pub asked : AskForTrees words dirs invocation
  pub trees : List Tree
  pub read : HaveTrees s.files.before.held invocation dirs trees
  pub plans_are : plans ≡ plans_of trees
  pub whole_is : IsWholePlan trees whole
  pub reported : AreReported (map rest_of trees) whole entries s.sink.before s.sink.after
  pub parts : invocation.wanted.stop_on_failure ≡ false → PartsAreRuns entries 0 trees
  pub meant :
      invocation.wanted.stop_on_failure ≡ false
      → (world : List Told) → AllTell world s.gates.before
      → PartsAreMeant (invocation_seen invocation) read.lent world entries 0 trees

-- a call that returns Completed had a run of the trees of its plans whose parts are as meant
abbrev pub AnswersTreesAsMeant : List (List ℕ) → RunSides → TreesMade → Outcome → Type 0
AnswersTreesAsMeant words s made outcome =
    outcome ≡ Completed
    → IsSomeAnd made.whole (λ whole.
    IsSomeAnd made.history (λ entries. RanTreesAsMeant words s made.plans whole entries))
