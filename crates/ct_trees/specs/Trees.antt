-- What is read and planned for each build tree, and why a tree is refused. Source: CMake manual, ctest(1),
-- Options, Run Tests, for one tree; that several trees share a specification is this project's own.
use Rattle.std.specs.Prelude.{◌≡◌, ◌⊎◌, ⊤, ℕ, ◌+◌, ◌<◌, ◌≤◌, List, [], ◌∷◌, ◌++◌, length, map, slice_get, Option, Some, Ok, IfSome}
use Rattle.ct_base.specs.declared.defs.Resource.{Resource}
use Rattle.ct_base.specs.declared.defs.TestDef.{TestDef}
use Rattle.ct_base.specs.Outside.{Held}
use Rattle.ct_testfile.specs.declared.fault.ReadKind.TheVariants.{TooManyTests}
use Rattle.ct_testfile.specs.Asks.{TreeAsks}
use Rattle.ct_testfile.specs.Commands.{test_file}
use Rattle.ct_props.specs.declared.props.Props.{Props}
use Rattle.ct_cost.specs.declared.cost_data.CostData.{CostData}
use Rattle.ct_history.specs.declared.plan.PlanParts.{PlanParts}
use Rattle.ct_history.specs.Plan.{IsSound}
use Rattle.ct_graph.specs.Order.{most_edges}
use Rattle.ct_args.specs.declared.invocation.Invocation.{Invocation}
use Rattle.ct_args.specs.Invocation.{invocation_seen}
use Rattle.ct_plan.specs.PlanOf.{IsPlanOf}
use Rattle.ct_plan.specs.Source.{Source, edge_count, source}
use Rattle.ct_plan.specs.Whole.{defined_in}
use Rattle.ct_app.specs.declared.outcome.Refusal.{Refusal}
use Rattle.ct_app.specs.declared.outcome.Refusal.TheVariants.{TestFile}
use Rattle.ct_app.specs.Reading.{AreRead, RefusesPlan, RefusesReading}
use Rattle.ct_app.specs.RunFiles.{costs_path, last_costs}
use Rattle.ct_app.specs.SpecFile.{AreLent}
use Rattle.ct_plan.specs.declared.whole.Tree.{Tree}
use Rattle.ct_trees.specs.declared.planning.TheConstants.{MOST_TREE_TESTS}
use Rattle.ct_trees.specs.TreeWords.{trees_in}

-- the greatest number of tests that all trees define together
abbrev pub most_tree_tests : ℕ
most_tree_tests = MOST_TREE_TESTS

-- the plans of these trees
abbrev pub plans_of : List Tree → List PlanParts
plans_of trees = map (λ (tree : Tree). tree.plan) trees

-- the invocation for the tree in this folder: its own folder counts for nothing
abbrev pub invocation_for : Invocation → List ℕ → Invocation
invocation_for invocation dir =
    record invocation { wanted = record invocation.wanted { dir = dir } }

-- the words ask for a run of the trees in these folders, with this invocation for each of them
abbrev pub AskForTrees : List (List ℕ) → List (List ℕ) → Invocation → Type 0
AskForTrees words dirs invocation =
    trees_in words ≡ Ok (record { dirs = dirs; invocation = invocation_seen invocation })

-- these tests with their properties, and this cost data, were read for the tree in this folder
pub record IsReadTree
    (told : Option Held) (invocation : Invocation) (dir : List ℕ) (defs : List TestDef) (props : List Props)
    (costs : CostData) : Type 0 where
  pub tests : AreRead told (invocation_for invocation dir) defs props
  pub last : IfSome told (λ held. costs ≡ last_costs dir held)

-- what the plan of the tree in this folder is made of, where these resources are lent to all trees
abbrev pub source_for : Invocation
    → Option (List Resource) → List ℕ → List TestDef → List Props → CostData → Source
source_for invocation lent dir defs props costs =
    source defs props (invocation_for invocation dir).wanted lent costs

-- this is the tree in this folder, with a sound plan of its tests alone
pub record IsTreeIn
    (told : Option Held) (invocation : Invocation) (lent : Option (List Resource)) (dir : List ℕ)
    (tree : Tree) : Type 0 where
  pub read : IsReadTree told invocation dir tree.defs tree.props tree.costs
  pub few : edge_count (source_for invocation lent dir tree.defs tree.props tree.costs) ≤ most_edges
  pub planned : IsPlanOf (source_for invocation lent dir tree.defs tree.props tree.costs) tree.plan
  pub sound : IsSound tree.plan

-- these are the trees in these folders, one for each, in order
abbrev pub AreTrees : Option Held
    → Invocation → Option (List Resource) → List (List ℕ) → List Tree → Type 0
AreTrees told invocation lent [] [] = ⊤
AreTrees told invocation lent [] (tree ∷ trees) = ⊥
AreTrees told invocation lent (dir ∷ dirs) [] = ⊥
AreTrees told invocation lent (dir ∷ dirs) (tree ∷ trees) =
    IsTreeIn told invocation lent dir tree × AreTrees told invocation lent dirs trees

-- the tree in this folder defines more tests than may stand behind those of other trees; its first file is
-- refused as a whole
pub record IsOverfull
    (told : Option Held) (invocation : Invocation) (count : ℕ) (dir : List ℕ) (refusal : Refusal) : Type 0
  where
    pub defs : List TestDef
    pub props : List Props
    pub read : AreRead told (invocation_for invocation dir) defs props
    pub over : most_tree_tests < count + length defs
    pub refused : refusal ≡ TestFile (test_file dir).path 0 TooManyTests

-- the tests of the tree in this folder, behind so many tests of other trees, are refused as they are read
abbrev pub RefusesTreeTests : Option Held → Invocation → ℕ → List ℕ → Refusal → Type 0
RefusesTreeTests told invocation count dir refusal =
    RefusesReading told (invocation_for invocation dir) refusal
    ⊎ IsOverfull told invocation count dir refusal

-- the tree in this folder was read, and its tests have no plan; the tests of a cycle have these names
pub record IsUnplannedTree
    (told : Option Held) (invocation : Invocation) (lent : Option (List Resource)) (count : ℕ) (dir : List ℕ)
    (refusal : Refusal) (names : List (List ℕ)) : Type 0 where
  pub defs : List TestDef
  pub props : List Props
  pub costs : CostData
  pub read : IsReadTree told invocation dir defs props costs
  pub few : count + length defs ≤ most_tree_tests
  pub refused : RefusesPlan (source_for invocation lent dir defs props costs) refusal names

-- the tree in this folder, behind so many tests of other trees, is refused; the tests of a cycle have these
-- names
abbrev pub RefusesTree : Option Held
    → Invocation → Option (List Resource) → ℕ → List ℕ → Refusal → List (List ℕ) → Type 0
RefusesTree told invocation lent count dir refusal names =
    RefusesTreeTests told invocation count dir refusal
    ⊎ IsUnplannedTree told invocation lent count dir refusal names

-- the tests of the tree in this folder are read, and are not too many behind those of other trees
abbrev pub AreFewRead : Option Held → Invocation → ℕ → List ℕ → Type 0
AreFewRead told invocation count dir =
    (defs : List TestDef)
    × (props : List Props)
    × AreRead told (invocation_for invocation dir) defs props
    × (count + length defs ≤ most_tree_tests)

-- reading for the tree in this folder, behind so many tests of other trees, may fail at this path: in its
-- tree of test files; or, where its tests are read and are not too many, at its cost data
abbrev pub TreeFailsAt : Option Held → Invocation → ℕ → List ℕ → List ℕ → Type 0
TreeFailsAt told invocation count dir path =
    IfSome told (λ held. TreeAsks held dir invocation.config path)
    ⊎ (AreFewRead told invocation count dir × (path ≡ costs_path dir))

-- the trees in the first folders were read and planned, and these are their plans
pub record AreFirstTrees
    (told : Option Held) (invocation : Invocation) (lent : Option (List Resource)) (dirs : List (List ℕ))
    (plans : List PlanParts) (trees : List Tree) : Type 0 where
  pub before : List (List ℕ)
  pub behind : List (List ℕ)
  pub split : dirs ≡ before ++ behind
  pub are : AreTrees told invocation lent before trees
  pub few : defined_in trees ≤ most_tree_tests
  pub plans_are : plans ≡ plans_of trees

-- the trees in front of the one with this place, from 0, were read and planned, and these are their plans;
-- and `Stops` holds of how many tests they define together and of the folder at the place
pub record StopsAtTree
    (told : Option Held) (invocation : Invocation) (lent : Option (List Resource)) (dirs : List (List ℕ))
    (plans : List PlanParts) (place : ℕ) (Stops : ℕ → List ℕ → Type 0) : Type 0 where
  pub trees : List Tree
  pub front : AreFirstTrees told invocation lent dirs plans trees
  pub place_is : place ≡ length trees
  pub dir : List ℕ
  pub there : slice_get dirs place ≡ Some dir
  pub stops : Stops (defined_in trees) dir

-- the trees in these folders were read and planned, and share what the named specification declares
pub record HaveTrees (told : Option Held) (invocation : Invocation) (dirs : List (List ℕ)) (trees : List Tree)
    : Type 0 where
  pub lent : Option (List Resource)
  pub declared : AreLent told invocation.spec_file lent
  pub are : AreTrees told invocation lent dirs trees
  pub few : defined_in trees ≤ most_tree_tests

-- the trees in front of the one at this place have these plans, and `Stops` holds of that one. It is told
-- what is lent, how many tests the trees in front define together, and the folder.
pub record StopsReading
    (told : Option Held) (invocation : Invocation) (dirs : List (List ℕ)) (plans : List PlanParts) (place : ℕ)
    (Stops : Option (List Resource) → ℕ → List ℕ → Type 0) : Type 0 where
  pub lent : Option (List Resource)
  pub declared : AreLent told invocation.spec_file lent
  pub stops : StopsAtTree told invocation lent dirs plans place (Stops lent)
