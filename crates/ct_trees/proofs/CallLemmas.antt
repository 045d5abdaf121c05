-- The trees of a call are ready to run: what read and planned trees give.
use Rattle.std.proofs.Common.{◌≡◌, sym, subst, ℕ, ◌≤◌, List, [], ◌∷◌, length, arith}
use Rattle.std.specs.Prelude.{All, Option}
use Rattle.std.proofs.lemmas.List.Elements.{All-cons, All-nil}
use Rattle.ct_base.specs.declared.defs.Resource.{Resource}
use Rattle.ct_base.specs.Outside.{Held}
use Rattle.ct_args.specs.declared.invocation.Invocation.{Invocation}
use Rattle.ct_args.specs.Invocation.{IsBounded}
use Rattle.ct_plan.specs.declared.whole.Tree.{Tree}
use Rattle.ct_plan.specs.Whole.{IsPlannedTree, RunAlike, defined_in}
use Rattle.ct_trees.specs.Trees.{AreTrees, HaveTrees}
use Rattle.ct_trees.proofs.ForestLemmas.{trees-length}
use Rattle.ct_trees.proofs.WholeTreeLemmas.{trees_alike, trees_count, trees_planned}
use Rattle.std.specs.Prelude.{◌<◌, ◌-◌, ◌^◌}

levels : (told : Option Held) (invocation : Invocation) (lent : Option (List Resource)) (dirs : List (List ℕ)) (trees : List Tree) → 1 ≤ invocation.wanted.level → AreTrees told invocation lent dirs trees → All (λ (tree : Tree). 1 ≤ tree.plan.level) trees
levels told invocation lent [] [] some are = All-nil (λ (tree : Tree). 1 ≤ tree.plan.level)
levels told invocation lent [] (t ∷ ts) some are = absurd are
levels told invocation lent (d ∷ ds) [] some are = absurd are
levels told invocation lent (d ∷ ds) (t ∷ ts) some are = All-cons (λ (tree : Tree). 1 ≤ tree.plan.level) t ts (subst (λ (n : ℕ). 1 ≤ n) (sym are.0.planned.level) some) (levels told invocation lent ds ts some are.1)

module _ (told : Option Held) (invocation : Invocation) (dirs : List (List ℕ)) (trees : List Tree) (have : HaveTrees told invocation dirs trees) where
  pub have_level : IsBounded invocation → All (λ (tree : Tree). 1 ≤ tree.plan.level) trees
  have_level bounded = levels told invocation have.lent dirs trees bounded.some_level have.are

  pub have_planned : All IsPlannedTree trees
  have_planned = trees_planned told invocation have.lent dirs trees have.are

  pub have_alike : 0 < length dirs → RunAlike trees
  have_alike one = trees_alike told invocation have.lent dirs trees one have.are

  pub have_few : defined_in trees < 2 ^ 32 - 1
  have_few = trees_count told invocation have.lent dirs trees have.are have.few

  -- there are as many trees as folders
  pub have_each : length trees ≡ length dirs
  have_each = trees-length told invocation have.lent dirs trees have.are

  pub have_within : length trees ≤ length dirs
  have_within = omega (arith, have_each)
