-- The tests of trees, joined one tree after the other.
use Rattle.std.proofs.Common.{◌≡◌, ◌∙◌, sym, ap, List, [], ◌∷◌, ◌++◌, map}
use Rattle.std.specs.Prelude.{Result, Ok, Err, IfOk, IsOkAnd}
use Rattle.ct_base.specs.declared.memory.NoMemory.{NoMemory}
use Rattle.std.proofs.lemmas.List.{append-nil, map-append}
use Rattle.std.proofs.lemmas.Grind.{flat_map-append}
use Rattle.ct_base.specs.declared.defs.TestDef.{TestDef}
use Rattle.ct_props.specs.declared.props.Props.{Props}
use Rattle.ct_history.specs.declared.plan.PlanParts.{PlanParts}
use Rattle.ct_plan.specs.declared.whole.Tree.{Tree}
use Rattle.ct_trees.specs.declared.joining.Joined.{Joined}
use Rattle.ct_trees.specs.declared.joining.TreeRest.{TreeRest}
use Rattle.ct_trees.specs.Joining.{JoinsTests, AreJoined, defs_of_trees, props_of_trees}
use Rattle.ct_trees.specs.TreeReports.{rest_of}
use Rattle.ct_trees.specs.Trees.{plans_of}

-- no tree is joined
pub none_joined : (joined : Joined) → joined ≡ record { defs = []; props = [] } → AreJoined [] joined
none_joined joined is = record {
  defs = ap (λ (j : Joined). j.defs) is;
  props = ap (λ (j : Joined). j.props) is;
}

-- one more tree is joined
pub one_joined : (trees : List Tree) (tree : Tree) (old new : Joined) → AreJoined trees old → JoinsTests tree.defs tree.props old new → AreJoined (trees ++ tree ∷ []) new
one_joined trees tree old new are adds = record {
  defs =
      adds.defs_are
      ∙ ap (λ (defs : List TestDef). defs ++ tree.defs) are.defs
      ∙ ap (λ (defs : List TestDef). defs_of_trees trees ++ defs) (sym (append-nil tree.defs))
      ∙ sym (flat_map-append (λ (t : Tree). t.defs) trees (tree ∷ []));
  props =
      adds.props_are
      ∙ ap (λ (props : List Props). props ++ tree.props) are.props
      ∙ ap (λ (props : List Props). props_of_trees trees ++ props) (sym (append-nil tree.props))
      ∙ sym (flat_map-append (λ (t : Tree). t.props) trees (tree ∷ []));
}

-- the tests of one more tree are joined, if memory did not run out
pub tests_more : (trees : List Tree) (tree : Tree) (old new : Result Joined NoMemory) → IfOk old (AreJoined trees) → IfOk new (λ now. IsOkAnd old (λ before. JoinsTests tree.defs tree.props before now)) → IfOk new (AreJoined (trees ++ tree ∷ []))
tests_more trees tree (Ok before) (Ok now) are adds = one_joined trees tree before now are adds
tests_more trees tree (Err fault) (Ok now) are adds = absurd adds
tests_more trees tree (Ok before) (Err fault) are adds = tt
tests_more trees tree (Err first) (Err fault) are adds = tt

-- what is left of one more tree
pub rests_more : (trees : List Tree) (tree : Tree) (old new : List TreeRest) → old ≡ map rest_of trees → new ≡ old ++ rest_of tree ∷ [] → new ≡ map rest_of (trees ++ tree ∷ [])
rests_more trees tree old new so_far more = more ∙ ap (λ (rests : List TreeRest). rests ++ rest_of tree ∷ []) so_far ∙ sym (map-append rest_of trees (tree ∷ []))

-- the plan of one more tree is taken
pub plans_more : (rests : List TreeRest) (rest : TreeRest) (old new : List PlanParts) → old ≡ map (λ (r : TreeRest). r.plan) rests → new ≡ old ++ rest.plan ∷ [] → new ≡ map (λ (r : TreeRest). r.plan) (rests ++ rest ∷ [])
plans_more rests rest old new so_far more = more ∙ ap (λ (ps : List PlanParts). ps ++ rest.plan ∷ []) so_far ∙ sym (map-append (λ (r : TreeRest). r.plan) rests (rest ∷ []))

-- the plan of one more tree is taken
pub tree_plans_more : (trees : List Tree) (tree : Tree) (old new : List PlanParts) → old ≡ plans_of trees → new ≡ old ++ tree.plan ∷ [] → new ≡ plans_of (trees ++ tree ∷ [])
tree_plans_more trees tree old new so_far more = more ∙ ap (λ (ps : List PlanParts). ps ++ tree.plan ∷ []) so_far ∙ sym (map-append (λ (t : Tree). t.plan) trees (tree ∷ []))
