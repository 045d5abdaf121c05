-- The run of trees that have a plan, from its steps.
use Rattle.std.proofs.Common.{◌≡◌, ◌∙◌, sym, ap, subst, refl, ℕ, ◌<◌, ◌≤◌, ◌-◌, ◌^◌, List, [], ◌∷◌, length, map, arith}
use Rattle.std.proofs.lemmas.List.{length-map}
use Rattle.std.specs.Prelude.{All, is_some, Option, Result, Ok, Err, OnOk}
use Rattle.std.proofs.lemmas.List.Elements.{All-head}
use Rattle.ct_base.specs.declared.defs.TestDef.{TestDef}
use Rattle.ct_base.specs.Outside.{SinkTell}
use Rattle.ct_props.specs.declared.props.Props.{Props}
use Rattle.ct_history.specs.declared.plan.PlanParts.{PlanParts}
use Rattle.ct_history.specs.declared.history.Entry.{Entry}
use Rattle.ct_core.specs.Gate.{GateTell}
use Rattle.ct_core.specs.Order.{FollowsQueue}
use Rattle.ct_plan.specs.declared.whole.Tree.{Tree}
use Rattle.ct_plan.specs.Whole.{AreTreeParts, IsWholePlan, RunAlike, RunsLike, defined_in}
use Rattle.ct_worker.specs.Gates.{Terms}
use Rattle.ct_app.specs.declared.outcome.Outcome.{Outcome}
use Rattle.ct_app.specs.Run.{HasRun}
use Rattle.ct_trees.specs.declared.joining.Joined.{Joined}
use Rattle.ct_trees.specs.declared.joining.TreeRest.{TreeRest}
use Rattle.ct_trees.specs.declared.tree_run.RunTerms.{RunTerms}
use Rattle.ct_trees.specs.Joining.{AreFinalParts, AreJoined, AreRestParts, defined_by, defs_of_trees, props_of_trees}
use Rattle.ct_trees.specs.TreeEnds.{EndsWithTrees}
use Rattle.ct_trees.specs.TreeReports.{rest_of}
use Rattle.ct_trees.specs.TreeRuns.{IsRunOfTrees, RanTrees, RunSides, terms_for}
use Rattle.ct_trees.specs.TreeStops.{TreesEnd}
use Rattle.ct_trees.specs.Trees.{plans_of}
use Rattle.ct_trees.proofs.WholeTreeLemmas.{parts_final, rests_are_parts, rests_count}

-- the level of the whole plan is that of the trees
pub whole_level : (trees : List Tree) (whole : PlanParts) → RunAlike trees → IsWholePlan trees whole → All (λ (tree : Tree). 1 ≤ tree.plan.level) trees → 1 ≤ whole.level
whole_level [] whole alike is levels = absurd alike
whole_level (tree ∷ trees) whole alike is levels = subst (λ (n : ℕ). 1 ≤ n) (All-head (RunsLike whole) tree trees is.alike).level (All-head (λ (t : Tree). 1 ≤ t.plan.level) tree trees levels)

-- where the run of the whole plan is complete, each test of each tree is final in its part
pub ended_final : (trees : List TreeRest) (whole : PlanParts) (es : List Entry) (before now : SinkTell) (ended : Result (Unit {0}) Outcome) → AreRestParts whole 0 trees → TreesEnd trees whole es before now ended → OnOk ended (AreFinalParts 0 trees es)
ended_final trees whole es before now (Ok done) parts ends = parts_final whole 0 trees parts es ends.complete
ended_final trees whole es before now (Err outcome) parts ends = tt

module _ (trees : List Tree) (joined : Joined) (are : AreJoined trees joined) (run : RunTerms) (whole plan : PlanParts) (same : plan ≡ whole) (es : List Entry) (gates gates_now : List GateTell) where
  abbrev pub joined_terms : List TestDef → List Props → PlanParts → Terms
  joined_terms defs props p = record { own = run.own.now; defs = defs; props = props; limit = run.timeout; lends = is_some p.resources }

  pub trees_ran : IsWholePlan trees whole → HasRun (joined_terms joined.defs joined.props whole) gates gates_now plan es → FollowsQueue plan es → IsRunOfTrees (terms_for run trees plan) trees gates gates_now plan es
  trees_ran is ran order =
      record {
        joined = subst (λ (p : PlanParts). IsWholePlan trees p) (sym same) is;
        ran =
            subst (λ (t : Terms). HasRun t gates gates_now plan es)
            (ap (λ (defs : List TestDef). joined_terms defs joined.props whole) are.defs
            ∙ ap (λ (props : List Props). joined_terms (defs_of_trees trees) props whole) are.props
            ∙ ap (λ (p : PlanParts). joined_terms (defs_of_trees trees) (props_of_trees trees) p) (sym same)) ran;
        order = order;
      }

plans_left : (trees : List Tree) → map (λ (r : TreeRest). r.plan) (map rest_of trees) ≡ plans_of trees
plans_left [] = refl
plans_left (tree ∷ trees) = ap (λ (ps : List PlanParts). tree.plan ∷ ps) (plans_left trees)

-- what is left of trees is as their trees are
module _ (trees : List Tree) (rests : List TreeRest) (same : rests ≡ map rest_of trees) where
  pub rests_parts : (whole : PlanParts) → AreTreeParts whole 0 trees → AreRestParts whole 0 rests
  rests_parts whole parts = subst (λ (rs : List TreeRest). AreRestParts whole 0 rs) (sym same) (rests_are_parts whole 0 trees parts)

  pub rests_few : defined_in trees < 2 ^ 32 - 1 → defined_by rests < 2 ^ 32
  rests_few few =
      let counted : defined_by rests ≡ defined_in trees = ap (λ (rs : List TreeRest). defined_by rs) same ∙ rests_count trees in
      omega (arith, few, counted)

  pub rests_length : length rests ≡ length trees
  rests_length = ap (λ (rs : List TreeRest). length rs) same ∙ length-map trees rest_of

  pub rests_places : length trees < 2 ^ 32 → length rests ≤ 2 ^ 32
  rests_places few = omega (arith, few, rests_length)

  pub rests_within : (room : ℕ) → length trees ≤ room → length rests ≤ room
  rests_within room few = omega (arith, few, rests_length)

  pub rests_plans : map (λ (r : TreeRest). r.plan) rests ≡ plans_of trees
  rests_plans = ap (λ (rs : List TreeRest). map (λ (r : TreeRest). r.plan) rs) same ∙ plans_left trees

  -- each test of each tree is final where the run is complete
  pub rests_final : (whole plan : PlanParts) (es : List Entry) (before now : SinkTell) (ended : Result (Unit {0}) Outcome) → plan ≡ whole → AreTreeParts whole 0 trees → TreesEnd rests plan es before now ended → OnOk ended (AreFinalParts 0 rests es)
  rests_final whole plan es before now ended is parts ends = ended_final rests plan es before now ended (subst (λ (p : PlanParts). AreRestParts p 0 rests) (sym is) (rests_parts whole parts)) ends

  -- the trees ran
  pub run_so : (s : RunSides) (run : RunTerms) (plan : PlanParts) (es : List Entry) (place : Option ℕ) (ended : Result ℕ Outcome) (tests : Result (Unit {0}) Outcome) → IsRunOfTrees (terms_for run trees plan) trees s.gates.before s.gates.after plan es → TreesEnd rests plan es s.sink.before s.sink.after tests → EndsWithTrees run.empty_is_error rests es s.files.before s.files.after tests place ended → RanTrees s run trees plan es place ended
  run_so s run plan es place ended tests ran reported left = record {
    ran = ran;
    tests = tests;
    reported = subst (λ (rs : List TreeRest). TreesEnd rs plan es s.sink.before s.sink.after tests) same reported;
    left = subst (λ (rs : List TreeRest). EndsWithTrees run.empty_is_error rs es s.files.before s.files.after tests place ended) same left;
  }
