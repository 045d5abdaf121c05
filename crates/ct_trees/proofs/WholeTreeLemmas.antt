-- Trees that were read and planned can have a whole plan.
use Rattle.std.proofs.Common.{◌≡◌, ◌∙◌, sym, ap, subst, refl, ℕ, ◌+◌, ◌<◌, ◌≤◌, ◌^◌, ◌-◌, List, [], ◌∷◌, length, map, arith}
use Rattle.std.specs.Prelude.{Option, Ok, All}
use Rattle.std.proofs.lemmas.List.Elements.{All-cons, All-nil}
use Rattle.ct_base.specs.declared.defs.Resource.{Resource}
use Rattle.ct_base.specs.Outside.{Held}
use Rattle.ct_args.specs.declared.invocation.Invocation.{Invocation}
use Rattle.ct_history.specs.declared.plan.PlanParts.{PlanParts}
use Rattle.ct_history.specs.declared.history.Entry.{Entry}
use Rattle.ct_history.specs.Legal.{IsComplete}
use Rattle.ct_history.proofs.PartLegalLemmas.{complete_in_part}
use Rattle.ct_plan.specs.declared.whole.Tree.{Tree}
use Rattle.ct_plan.specs.Whole.{AreTreeParts, IsPlannedTree, RunAlike, RunsLike, defined_in}
use Rattle.ct_plan.proofs.PlannedTreeLemmas.{planned_tree}
use Rattle.ct_app.specs.Run.{RunEnds}
use Rattle.ct_trees.specs.declared.joining.TreeRest.{TreeRest}
use Rattle.ct_trees.specs.Joining.{AreFinalParts, AreRestParts, defined_by}
use Rattle.ct_trees.specs.TreeReports.{rest_of}
use Rattle.ct_trees.specs.Trees.{AreTrees, IsTreeIn, invocation_for, most_tree_tests}

module _ (told : Option Held) (invocation : Invocation) (lent : Option (List Resource)) where
  -- two trees of one invocation run alike
  runs_like : (one two : List ℕ) (first tree : Tree) → IsTreeIn told invocation lent one first → IsTreeIn told invocation lent two tree → RunsLike first.plan tree
  runs_like one two first tree here there = record {
    resources = there.planned.resources ∙ sym here.planned.resources;
    level = there.planned.level ∙ sym here.planned.level;
    repeat = there.planned.repeat ∙ sym here.planned.repeat;
    stop = there.planned.stop ∙ sym here.planned.stop;
  }

  all_like : (one : List ℕ) (first : Tree) → IsTreeIn told invocation lent one first → (dirs : List (List ℕ)) (trees : List Tree) → AreTrees told invocation lent dirs trees → All (RunsLike first.plan) trees
  all_like one first here [] [] are = All-nil (RunsLike first.plan)
  all_like one first here [] (t ∷ ts) are = absurd are
  all_like one first here (d ∷ ds) [] are = absurd are
  all_like one first here (d ∷ ds) (t ∷ ts) are = All-cons (RunsLike first.plan) t ts (runs_like one d first t here are.0) (all_like one first here ds ts are.1)

  -- trees of one invocation run alike
  pub trees_alike : (dirs : List (List ℕ)) (trees : List Tree) → 0 < length dirs → AreTrees told invocation lent dirs trees → RunAlike trees
  trees_alike [] trees some are = absurd (omega (arith, some))
  trees_alike (d ∷ ds) [] some are = absurd are
  trees_alike (d ∷ ds) (t ∷ ts) some are = all_like d t are.0 (d ∷ ds) (t ∷ ts) are

  -- each tree has a plan of its own tests
  pub trees_planned : (dirs : List (List ℕ)) (trees : List Tree) → AreTrees told invocation lent dirs trees → All IsPlannedTree trees
  trees_planned [] [] are = All-nil IsPlannedTree
  trees_planned [] (t ∷ ts) are = absurd are
  trees_planned (d ∷ ds) [] are = absurd are
  trees_planned (d ∷ ds) (t ∷ ts) are = All-cons IsPlannedTree t ts (planned_tree t (invocation_for invocation d).wanted lent are.0.read.tests.have are.0.planned) (trees_planned ds ts are.1)

  pub trees_count : (dirs : List (List ℕ)) (trees : List Tree) → AreTrees told invocation lent dirs trees → defined_in trees ≤ most_tree_tests → defined_in trees < 2 ^ 32 - 1
  trees_count dirs trees are few = omega (arith, few)

-- the plans that are left are parts of the whole plan
pub rests_are_parts : (whole : PlanParts) (offset : ℕ) (trees : List Tree) → AreTreeParts whole offset trees → AreRestParts whole offset (map rest_of trees)
rests_are_parts whole offset [] parts = tt
rests_are_parts whole offset (tree ∷ trees) parts = (parts.0, rests_are_parts whole (offset + length tree.defs) trees parts.1)

-- the rests define as many tests as their trees
pub rests_count : (trees : List Tree) → defined_by (map rest_of trees) ≡ defined_in trees
rests_count [] = refl
rests_count (tree ∷ trees) = ap (λ (n : ℕ). length tree.defs + n) (rests_count trees)

-- in a complete history of the whole plan each test of each tree is final in its part
pub parts_final : (whole : PlanParts) (offset : ℕ) (trees : List TreeRest) → AreRestParts whole offset trees → (es : List Entry) → IsComplete whole es → AreFinalParts offset trees es
parts_final whole offset [] parts es complete = tt
parts_final whole offset (tree ∷ trees) parts es complete =
    ((complete_in_part whole offset tree.defined tree.plan parts.0 es complete).final, parts_final whole (offset + tree.defined) trees parts.1 es complete)

-- where the run of the whole plan ended well, each test of each tree is final in its part
pub parts_ended : (whole : PlanParts) (trees : List TreeRest) (es own : List Entry) → AreRestParts whole 0 trees → own ≡ es → RunEnds whole es (Ok tt) → AreFinalParts 0 trees own
parts_ended whole trees es own parts same ends = subst (λ (xs : List Entry). AreFinalParts 0 trees xs) (sym same) (parts_final whole 0 trees parts es ends.0)
