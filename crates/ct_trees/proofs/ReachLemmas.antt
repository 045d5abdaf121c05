-- The tests of the whole plan are among the tests of its trees.
use Rattle.std.proofs.Common.{◌≡◌, ◌∙◌, sym, ap, refl, ℕ, ◌+◌, ◌<◌, ◌≤◌, Bool, List, [], ◌∷◌, ◌++◌, length, map, inl, inr, arith}
use Rattle.std.specs.Prelude.{◌⊎◌, All, Some, ◌==◌, cond}
use Rattle.std.proofs.lemmas.Bool.{cases_Bool}
use Rattle.std.proofs.lemmas.Bool.Decides.{nat_tests}
use Rattle.std.proofs.lemmas.List.{length-append}
use Rattle.std.proofs.lemmas.List.Elements.{All-head, All-tail}
use Rattle.ct_base.specs.declared.defs.TestDef.{TestDef}
use Rattle.ct_props.specs.declared.props.Props.{Props}
use Rattle.ct_history.specs.declared.plan.PlanTest.{PlanTest}
use Rattle.ct_history.specs.declared.plan.PlanParts.{PlanParts}
use Rattle.ct_history.specs.Parts.{renumbered}
use Rattle.ct_history.specs.Plan.{test_at}
use Rattle.ct_plan.specs.declared.whole.Tree.{Tree}
use Rattle.ct_plan.specs.Whole.{IsPlannedTree, IsWholePlan, defined_in, tests_of_trees}
use Rattle.ct_worker.specs.declared.jobs.Jobs.{Jobs}
use Rattle.ct_worker.specs.Work.{Reach}
use Rattle.ct_trees.specs.Joining.{defs_of_trees, props_of_trees}

-- a number above an offset, and within so many numbers
abbrev IsAbove : ℕ → ℕ → Type 0
IsAbove most number = (0 < number) × (number ≤ most)

-- a test that is found is one of these, or is found behind them
found_in_tree : (o c n : ℕ) (ts rest : List PlanTest) (t : PlanTest) → All (IsAbove c) (map (λ (u : PlanTest). u.number) ts) → test_at (map (renumbered o) ts ++ rest) n ≡ Some t → ((o < n) × (n ≤ o + c)) ⊎ (test_at rest n ≡ Some t)
found_in_tree o c n [] rest t within found = inr found
found_in_tree o c n (u ∷ us) rest t within found = elim (cases_Bool ((u.number + o) == n)) [
  | inl here ↦
      let one : IsAbove c u.number = All-head (IsAbove c) u.number (map (λ (v : PlanTest). v.number) us) within in
      let is : u.number + o ≡ n = grind (arith, nat_tests) in
      inl (omega (arith, one.0, is), omega (arith, one.1, is))
  | inr other ↦
      found_in_tree o c n us rest t (All-tail (IsAbove c) u.number (map (λ (v : PlanTest). v.number) us) within)
      (sym (ap (λ (b : Bool). cond b (Some (renumbered o u)) (test_at (map (renumbered o) us ++ rest) n)) other) ∙ found)
]

-- a test that is found has the number of a test of some tree
found_in_trees : (o n : ℕ) (trees : List Tree) (t : PlanTest) → All IsPlannedTree trees → test_at (tests_of_trees o trees) n ≡ Some t → (o < n) × (n ≤ o + defined_in trees)
found_in_trees o n [] t planned found = cc
found_in_trees o n (tree ∷ trees) t planned found =
    let here = All-head IsPlannedTree tree trees planned in
    elim (found_in_tree o (length tree.defs) n tree.plan.tests (tests_of_trees (o + length tree.defs) trees) t here.within found) [
      | inl one ↦ (one.0, omega (arith, one.1))
      | inr rest ↦
          let behind = found_in_trees (o + length tree.defs) n trees t (All-tail IsPlannedTree tree trees planned) rest in
          (omega (arith, behind.0), omega (arith, behind.1))
    ]

defs_count : (trees : List Tree) → length (defs_of_trees trees) ≡ defined_in trees
defs_count [] = refl
defs_count (tree ∷ trees) = length-append tree.defs (defs_of_trees trees) ∙ ap (λ (n : ℕ). length tree.defs + n) (defs_count trees)

props_count : (trees : List Tree) → All IsPlannedTree trees → length (props_of_trees trees) ≡ defined_in trees
props_count [] planned = refl
props_count (tree ∷ trees) planned =
    let here = All-head IsPlannedTree tree trees planned in
    length-append tree.props (props_of_trees trees)
    ∙ ap (λ (n : ℕ). n + length (props_of_trees trees)) here.paired
    ∙ ap (λ (n : ℕ). length tree.defs + n) (props_count trees (All-tail IsPlannedTree tree trees planned))

-- jobs that have the tests of all trees reach each test of the whole plan
pub whole_reach : (trees : List Tree) (whole : PlanParts) (jobs : Jobs) → All IsPlannedTree trees → IsWholePlan trees whole → jobs.defs.now ≡ defs_of_trees trees → jobs.props.now ≡ props_of_trees trees → Reach jobs whole
whole_reach trees whole jobs planned is defs_are props_are = record {
  paired =
      ap (λ (props : List Props). length props) props_are ∙ props_count trees planned
      ∙ sym (ap (λ (defs : List TestDef). length defs) defs_are ∙ defs_count trees);
  low = λ number t found. (found_in_trees 0 number trees t planned (sym (ap (λ (ts : List PlanTest). test_at ts number) is.tests) ∙ found)).0;
  within = λ number t found.
      let here = found_in_trees 0 number trees t planned (sym (ap (λ (ts : List PlanTest). test_at ts number) is.tests) ∙ found) in
      let count : length jobs.defs.now ≡ defined_in trees = ap (λ (defs : List TestDef). length defs) defs_are ∙ defs_count trees in
      omega (arith, here.1, count);
}
