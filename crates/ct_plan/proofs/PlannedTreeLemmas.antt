-- A tree whose plan was made of its tests is one of which a whole plan can be made, for the crates above.
use Rattle.std.proofs.Common.{◌≡◌, ◌∙◌, sym, ap, subst, ℕ, List, [], ◌∷◌, length, map, Option, refl}
use Rattle.ct_base.specs.declared.defs.Resource.{Resource}
use Rattle.ct_props.specs.declared.wanted.Wanted.{Wanted}
use Rattle.ct_history.specs.declared.plan.PlanTest.{PlanTest}
use Rattle.ct_plan.specs.declared.whole.Tree.{Tree}
use Rattle.ct_plan.specs.Planned.{ArePlannedTests}
use Rattle.ct_plan.specs.PlanOf.{IsPlanOf}
use Rattle.ct_plan.specs.Source.{HaveProps, Source, run_members, source}
use Rattle.ct_plan.specs.Whole.{IsPlannedTree}
use Rattle.ct_plan.proofs.CallerLemmas.{length-have_props}
use Rattle.ct_plan.proofs.NumberLemmas.{AreOfTests, some-members}

-- planned tests have the numbers that they were planned for
pub planned_numbers : (s : Source) (numbers : List ℕ) (tests : List PlanTest) → ArePlannedTests s numbers tests → map (λ (t : PlanTest). t.number) tests ≡ numbers
planned_numbers s [] [] planned = refl
planned_numbers s [] (t ∷ ts) planned = absurd planned
planned_numbers s (n ∷ ns) [] planned = absurd planned
planned_numbers s (n ∷ ns) (t ∷ ts) planned =
    ap (λ (m : ℕ). m ∷ map (λ (u : PlanTest). u.number) ts) (ap (λ (u : PlanTest). u.number) planned.0.is) ∙ ap (λ (ms : List ℕ). n ∷ ms) (planned_numbers s ns ts planned.1)

-- a tree with the plan of its own tests
pub planned_tree : (tree : Tree) (wanted : Wanted) (resources : Option (List Resource)) → HaveProps tree.defs tree.props → IsPlanOf (source tree.defs tree.props wanted resources tree.costs) tree.plan → IsPlannedTree tree
planned_tree tree wanted resources have is =
    let paired = length-have_props tree.defs tree.props have in
    let s = source tree.defs tree.props wanted resources tree.costs in
    record {
      paired = paired;
      within = subst (AreOfTests (length tree.defs)) (sym (planned_numbers s (run_members s) tree.plan.tests is.tests)) (some-members wanted.choice tree.defs tree.props paired).of_tests;
    }
