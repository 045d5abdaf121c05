-- The plan of several trees whose tests run as those of one. Source: this project's choice.
use Rattle.std.specs.Prelude.{◌≡◌, ℕ, ⊤, ◌+◌, ◌-◌, ◌<◌, ◌≤◌, ◌^◌, All, IsSomeAnd, List, [], ◌∷◌, ◌++◌, length, map, nat_le, Option, None, slice_get, if◌then◌else◌}
use Rattle.ct_base.specs.declared.defs.TestDef.{TestDef}
use Rattle.ct_props.specs.declared.props.Props.{Props}
use Rattle.ct_props.specs.Numbered.{at_number}
use Rattle.ct_history.specs.declared.plan.PlanTest.{PlanTest}
use Rattle.ct_history.specs.declared.plan.PlanParts.{PlanParts}
use Rattle.ct_history.specs.Parts.{IsPartOfPlan, renumbered}
use Rattle.ct_cost.specs.declared.cost_data.CostData.{CostData}
use Rattle.ct_plan.specs.declared.standing.Standing.{Standing}
use Rattle.ct_plan.specs.declared.whole.Tree.{Tree}
use Rattle.ct_plan.specs.Queue.{IsQueue, standing_there}

-- the tests of these trees, one tree behind the other: the numbers of a tree's tests are raised by the offset
-- and by the number of tests that the trees in front define
abbrev pub tests_of_trees : ℕ → List Tree → List PlanTest
tests_of_trees offset [] = []
tests_of_trees offset (tree ∷ trees) =
    map (renumbered offset) tree.plan.tests ++ tests_of_trees (offset + length tree.defs) trees

-- how many tests these trees define
abbrev pub defined_in : List Tree → ℕ
defined_in [] = 0
defined_in (tree ∷ trees) = length tree.defs + defined_in trees

-- the standing of the test with this number, if it is there, under its number raised by the offset
abbrev pub standing_behind : ℕ → List TestDef → List Props → CostData → ℕ → Option Standing
standing_behind offset defs props costs number =
    standing_there costs (number + offset) (at_number defs number) (at_number props number)

-- the standing of the test with this number among these trees, by what its own tree says of it, if it is
-- there
abbrev pub standing_in_trees : ℕ → List Tree → ℕ → Option Standing
standing_in_trees offset [] number = None
standing_in_trees offset (tree ∷ trees) number =
    if nat_le number (offset + length tree.defs)
    then standing_there tree.costs number
    (at_number tree.defs (number - offset)) (at_number tree.props (number - offset))
    else standing_in_trees (offset + length tree.defs) trees number

-- a tree has properties for each test, and its plan has no other tests
pub record IsPlannedTree (tree : Tree) : Type 0 where
  pub paired : length tree.props ≡ length tree.defs
  pub within : All (λ number. (0 < number) × (number ≤ length tree.defs))
      (map (λ (t : PlanTest). t.number) tree.plan.tests)

-- the plan of the tree has the resources, the level, the repeats and the stop of this plan
pub record RunsLike (plan : PlanParts) (tree : Tree) : Type 0 where
  pub resources : tree.plan.resources ≡ plan.resources
  pub level : tree.plan.level ≡ plan.level
  pub repeat : tree.plan.repeat ≡ plan.repeat
  pub stop : tree.plan.stop_on_failure ≡ plan.stop_on_failure

-- there is a first tree, and the plans of all trees run like its plan
abbrev pub RunAlike : List Tree → Type 0
RunAlike trees = IsSomeAnd (slice_get trees 0) (λ (first : Tree). All (RunsLike first.plan) trees)

-- the whole plan of these trees: the folder of the first one, all tests, and one queue of all, by the one
-- rule
pub record IsWholePlan (trees : List Tree) (plan : PlanParts) : Type 0 where
  pub dir : IsSomeAnd (slice_get trees 0) (λ (first : Tree). plan.dir ≡ first.plan.dir)
  pub tests : plan.tests ≡ tests_of_trees 0 trees
  pub queue : IsQueue plan.level (standing_in_trees 0 trees) plan.tests plan.queue
  pub alike : All (RunsLike plan) trees

-- the plan of each tree is the part of this plan behind the tests of the trees in front
abbrev pub AreTreeParts : PlanParts → ℕ → List Tree → Type 0
AreTreeParts whole offset [] = ⊤
AreTreeParts whole offset (tree ∷ trees) =
    IsPartOfPlan whole offset (length tree.defs) tree.plan
    × AreTreeParts whole (offset + length tree.defs) trees

-- the numbers that the test names stay below 2^32 when they are raised by the offset
pub record StaysNumbered (offset : ℕ) (t : PlanTest) : Type 0 where
  pub number : t.number + offset < 2 ^ 32
  pub before : All (λ n. n + offset < 2 ^ 32) t.before
  pub setups : All (λ n. n + offset < 2 ^ 32) t.setups
