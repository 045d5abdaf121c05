-- The tests of several trees, one tree behind the other, as one run knows them. This project's own.
use Rattle.std.specs.Prelude.{◌≡◌, ⊤, ℕ, ◌+◌, ◌-◌, ◌^◌, ◌<◌, ◌≤◌, true, List, [], ◌∷◌, ◌++◌, All, flat_map, length, map, vec_len}
use Rattle.std.specs.Vec.{vec_capacity}
use Rattle.ct_base.specs.declared.defs.TestDef.{TestDef}
use Rattle.ct_props.specs.declared.props.Props.{Props}
use Rattle.ct_history.specs.declared.plan.PlanParts.{PlanParts}
use Rattle.ct_history.specs.declared.history.Entry.{Entry}
use Rattle.ct_history.specs.Parts.{IsPartOfPlan}
use Rattle.ct_history.specs.Verdicts.{are_all_final}
use Rattle.ct_plan.specs.declared.whole.Tree.{Tree}
use Rattle.ct_plan.specs.Whole.{AreTreeParts, IsPlannedTree, IsWholePlan, RunAlike, defined_in}
use Rattle.ct_trees.specs.declared.joining.Joined.{Joined}
use Rattle.ct_trees.specs.declared.joining.Prepared.{Prepared}
use Rattle.ct_trees.specs.declared.joining.TreeRest.{TreeRest}
use Rattle.ct_trees.specs.TreeReports.{rest_of, tree_part}

-- the tests of these trees, one tree behind the other
abbrev pub defs_of_trees : List Tree → List TestDef
defs_of_trees trees = flat_map (λ (tree : Tree). tree.defs) trees

-- the properties of the tests of these trees, one tree behind the other
abbrev pub props_of_trees : List Tree → List Props
props_of_trees trees = flat_map (λ (tree : Tree). tree.props) trees

-- the tests of these trees, with their properties
pub record AreJoined (trees : List Tree) (joined : Joined) : Type 0 where
  pub defs : joined.defs ≡ defs_of_trees trees
  pub props : joined.props ≡ props_of_trees trees

-- these tests stand behind the others, and their properties likewise
pub record JoinsTests (defs : List TestDef) (props : List Props) (old new : Joined) : Type 0 where
  pub defs_are : new.defs ≡ old.defs ++ defs
  pub props_are : new.props ≡ old.props ++ props

-- the plan of each tree is the part of this plan behind the tests of the trees in front
abbrev pub AreRestParts : PlanParts → ℕ → List TreeRest → Type 0
AreRestParts whole offset [] = ⊤
AreRestParts whole offset (tree ∷ trees) =
    IsPartOfPlan whole offset tree.defined tree.plan
    × AreRestParts whole (offset + tree.defined) trees

-- how many tests these trees define together
abbrev pub defined_by : List TreeRest → ℕ
defined_by [] = 0
defined_by (tree ∷ trees) = tree.defined + defined_by trees

-- each test of each tree is final in the tree's part of a history
abbrev pub AreFinalParts : ℕ → List TreeRest → List Entry → Type 0
AreFinalParts offset [] entries = ⊤
AreFinalParts offset (tree ∷ trees) entries =
    (are_all_final tree.plan (tree_part offset tree entries) ≡ true)
    × AreFinalParts (offset + tree.defined) trees entries

-- these trees can run by one whole plan, which is at hand with their tests, with what is left of each of
-- them, and with room for their plans
pub record AreReadyTrees (trees : List Tree) (ready : Prepared) : Type 0 where
  pub planned : All IsPlannedTree trees
  pub alike : RunAlike trees
  pub few : defined_in trees < 2 ^ 32 - 1
  pub places : length trees < 2 ^ 32
  pub level : All (λ (tree : Tree). 1 ≤ tree.plan.level) trees
  pub whole : IsWholePlan trees ready.whole
  pub parts : AreTreeParts ready.whole 0 trees
  pub joined : AreJoined trees ready.joined
  pub rests : ready.rests ≡ map rest_of trees
  pub none : vec_len ready.room ≡ 0
  pub room : length trees ≤ vec_capacity ready.room

-- some trees are ready to run
abbrev pub HasReadyTrees : Prepared → Type 0
HasReadyTrees ready = (trees : List Tree) × AreReadyTrees trees ready
