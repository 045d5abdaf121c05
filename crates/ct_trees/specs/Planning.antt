-- The steps in which trees are read and planned, as their calls return. This project's own.
use Rattle.std.specs.Prelude.{◌≡◌, ◌⊎◌, ⊤, ℕ, ◌+◌, ◌<◌, ◌≤◌, List, [], ◌∷◌, ◌++◌, length, Option, Some, None, IfSome}
use Rattle.ct_base.specs.declared.defs.Resource.{Resource}
use Rattle.ct_base.specs.Outside.{FilesTell, SameHeld}
use Rattle.ct_testfile.specs.declared.fault.ReadKind.TheVariants.{TooManyTests}
use Rattle.ct_testfile.specs.Commands.{test_file}
use Rattle.ct_history.specs.declared.plan.PlanParts.{PlanParts}
use Rattle.ct_args.specs.declared.invocation.Invocation.{Invocation}
use Rattle.ct_app.specs.declared.outcome.Outcome.{Outcome}
use Rattle.ct_app.specs.declared.outcome.Outcome.TheVariants.{Refused, FilesFault, Memory}
use Rattle.ct_app.specs.declared.outcome.Refusal.TheVariants.{TestFile}
use Rattle.ct_app.specs.Ends.{HasTests}
use Rattle.ct_app.specs.Reading.{RefusesSpec}
use Rattle.ct_app.specs.RunFiles.{FilesFail, FilesStay, last_costs}
use Rattle.ct_plan.specs.declared.whole.Tree.{Tree}
use Rattle.ct_trees.specs.declared.planning.TreeFolder.{TreeFolder}
use Rattle.ct_trees.specs.Trees.{IsTreeIn, RefusesTreeTests, RefusesTree, StopsAtTree, StopsReading, TreeFailsAt, most_tree_tests}

-- the tests of a tree are refused for their number, or memory ran out
abbrev pub RefusesNumber : ℕ → List ℕ → Outcome → Type 0
RefusesNumber count dir outcome =
    ((most_tree_tests < count) × (outcome ≡ Refused (TestFile (test_file dir).path 0 TooManyTests)))
    ⊎ (outcome ≡ Memory)

-- the folder of the invocation's tree was read behind so many tests of other trees, and the files stay
pub record IsTreeFolder (invocation : Invocation) (before now : FilesTell) (count : ℕ) (folder : TreeFolder)
    : Type 0 where
  pub read : HasTests invocation before now folder.tests
  pub few : count + length folder.tests.defs ≤ most_tree_tests
  pub last : IfSome before.held (λ held. folder.costs ≡ last_costs invocation.wanted.dir held)

-- why the folder of the invocation's tree was not read: its tests are refused, the files failed at a path,
-- or memory ran out
abbrev pub IsUnreadTree : Invocation → FilesTell → FilesTell → ℕ → Outcome → Type 0
IsUnreadTree invocation before now count (Refused refusal) =
    RefusesTreeTests before.held invocation count invocation.wanted.dir refusal × FilesStay before now
IsUnreadTree invocation before now count (FilesFault path) =
    TreeFailsAt before.held invocation count invocation.wanted.dir path × FilesFail path SameHeld before now
IsUnreadTree invocation before now count Memory = FilesStay before now
IsUnreadTree invocation before now count other = ⊥

-- the invocation's tree was read and planned behind so many tests of other trees, and the files stay
pub record HasTree
    (invocation : Invocation) (lent : Option (List Resource)) (before now : FilesTell) (count : ℕ)
    (tree : Tree) : Type 0 where
  pub is : IsTreeIn before.held invocation lent invocation.wanted.dir tree
  pub few : count + length tree.defs ≤ most_tree_tests
  pub files : FilesStay before now

-- why the invocation's tree has no plan; the tests of a cycle have these names
abbrev pub HasNoTree : Invocation
    → Option (List Resource) → FilesTell → FilesTell → ℕ → List (List ℕ) → Outcome → Type 0
HasNoTree invocation lent before now count names (Refused refusal) =
    RefusesTree before.held invocation lent count invocation.wanted.dir refusal names × FilesStay before now
HasNoTree invocation lent before now count names (FilesFault path) =
    TreeFailsAt before.held invocation count invocation.wanted.dir path × FilesFail path SameHeld before now
HasNoTree invocation lent before now count names Memory = FilesStay before now
HasNoTree invocation lent before now count names other = ⊥

-- the invocation's tree was read and planned, and stands behind the others; all of them define so many
-- tests
pub record AddsTree
    (invocation : Invocation) (lent : Option (List Resource)) (before now : FilesTell) (count : ℕ)
    (old new : List Tree) (all : ℕ) : Type 0 where
  pub tree : Tree
  pub has : HasTree invocation lent before now count tree
  pub is : new ≡ old ++ tree ∷ []
  pub counted : all ≡ count + length tree.defs

-- why the tree behind those with these plans has no plan; the tests of a cycle have these names
abbrev pub LackTree : Invocation
    → Option (List Resource) → List (List ℕ) → FilesTell → FilesTell → List PlanParts → List (List ℕ)
    → Outcome → Type 0
LackTree invocation lent dirs before now plans names (Refused refusal) =
    StopsAtTree before.held invocation lent dirs plans (length plans)
    (λ count dir. RefusesTree before.held invocation lent count dir refusal names)
    × FilesStay before now
LackTree invocation lent dirs before now plans names (FilesFault path) =
    StopsAtTree before.held invocation lent dirs plans (length plans)
    (λ count dir. TreeFailsAt before.held invocation count dir path)
    × FilesFail path SameHeld before now
LackTree invocation lent dirs before now plans names Memory =
    StopsAtTree before.held invocation lent dirs plans (length plans) (λ count dir. ⊤) × FilesStay before now
LackTree invocation lent dirs before now plans names other = ⊥

-- why no tree was begun: the specification was not read, or memory ran out
abbrev pub LackSpec : Invocation → FilesTell → FilesTell → Outcome → Type 0
LackSpec invocation before now (Refused refusal) =
    RefusesSpec before.held invocation refusal × FilesStay before now
LackSpec invocation before now (FilesFault path) =
    (invocation.spec_file ≡ Some path) × FilesFail path SameHeld before now
LackSpec invocation before now Memory = FilesStay before now
LackSpec invocation before now other = ⊥

-- why the trees in these folders are not all planned; the tests of a cycle have these names:
-- - without a place no tree was begun, since the specification is read before all trees: there is no plan;
-- - the tree at the place has no plan: the plans are those of the trees in front of it
abbrev pub LackPlans : Invocation
    → List (List ℕ) → FilesTell → FilesTell → List PlanParts → Option ℕ → List (List ℕ) → Outcome → Type 0
LackPlans invocation dirs before now plans None names outcome =
    (plans ≡ []) × LackSpec invocation before now outcome
LackPlans invocation dirs before now plans (Some place) names (Refused refusal) =
    StopsReading before.held invocation dirs plans place
    (λ lent count dir. RefusesTree before.held invocation lent count dir refusal names)
    × FilesStay before now
LackPlans invocation dirs before now plans (Some place) names (FilesFault path) =
    StopsReading before.held invocation dirs plans place
    (λ lent count dir. TreeFailsAt before.held invocation count dir path)
    × FilesFail path SameHeld before now
LackPlans invocation dirs before now plans (Some place) names Memory =
    StopsReading before.held invocation dirs plans place (λ lent count dir. ⊤) × FilesStay before now
LackPlans invocation dirs before now plans (Some place) names other = ⊥
