use Rattle.std.proofs.Common.{◌<◌, ◌≤◌, ◌∙◌, ◌++◌, All, List, Some, arith, length, map, sym, ap, subst}
use Rattle.std.proofs.lemmas.List.{append-nil, drop_all}
use Rattle.ct_history.specs.declared.plan.PlanTest.{PlanTest}
use Rattle.ct_history.specs.declared.plan.PlanParts.{PlanParts}
use Rattle.ct_history.specs.Plan.{enabled}
use Rattle.ct_history.proofs.PlanLemmas.{numbers_of}
use Rattle.ct_plan.specs.declared.whole.Tree.{Tree}
use Rattle.ct_plan.proofs.NumberLemmas.{enabled_of_tests}
use Rattle.ct_plan.proofs.WholeLemmas.{planned_here}
use Rattle.ct_plan.proofs.TreeStandingLemmas.{told_is, told_standings}
use Rattle.ct_plan.proofs.whole.whole_standings.Goals as goal

pub add_standings-requires-clause-within : goal.add_standings-requires-clause-within
add_standings-requires-clause-within c =
    let tree = c.tree-item.result in
    let planned = planned_here c.args.trees.now c.loop-tree.tree-index tree c.requires.trees c.loop-tree-test.true c.tree-item.is in
    let own = c.as_slice.ensures ∙ ap (λ (p : PlanParts). p.tests) c.parts.ensures.is in
    let numbers = c.as_slice-in-loop-tree.ensures ∙ c.in_ok-numbers.ensures ∙ ap (λ (ts : List PlanTest). numbers_of (enabled ts)) own in
    subst (All (λ number. (0 < number) × (number ≤ length tree.defs))) (sym numbers) (enabled_of_tests (length tree.defs) tree.plan.tests planned.within)

pub returns : goal.returns
returns c =
    let trees = c.args.trees.now in
    let made = map Some c.loop-tree.standings.items in
    let rest = drop_all c.loop-tree.tree-index trees (omega (arith, c.loop-tree-test.false)) in
    sym (append-nil made)
    ∙ sym (ap (λ (ts : List Tree). made ++ told_standings c.loop-tree.offset ts) rest)
    ∙ c.loop-tree.invariant.made
    ∙ told_is 0 trees c.requires.trees c.requires.sound
