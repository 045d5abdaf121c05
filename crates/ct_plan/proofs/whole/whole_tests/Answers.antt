use Rattle.std.proofs.Common.{◌∙◌, ◌+◌, ◌++◌, ℕ, List, append_assoc, arith, drop, length, map, sym, ap, subst}
use Rattle.std.specs.Prelude.{All}
use Rattle.std.proofs.lemmas.List.{take_all}
use Rattle.ct_history.specs.declared.plan.PlanTest.{PlanTest}
use Rattle.ct_history.specs.declared.plan.PlanParts.{PlanParts}
use Rattle.ct_history.specs.Parts.{renumbered}
use Rattle.ct_plan.specs.Whole.{StaysNumbered, tests_of_trees}
use Rattle.ct_plan.proofs.WholeLemmas.{AreSound, defined_here, planned_here, sound_more, stays_numbered, trees_from}
use Rattle.ct_plan.proofs.whole.whole_tests.Goals as goal

pub add_tests-requires : goal.add_tests-requires
add_tests-requires c =
    let trees = c.args.trees.now in
    let i = c.loop-tree.tree-index in
    let o = c.loop-tree.offset in
    let tree = c.tree-item.result in
    let lt = c.loop-tree-test.true in
    let own = c.as_slice.ensures ∙ ap (λ (p : PlanParts). p.tests) c.parts.ensures.is in
    let counted = defined_here trees i o tree lt c.tree-item.is c.loop-tree.invariant.counted in
    let planned = planned_here trees i tree c.requires.trees lt c.tree-item.is in
    record {
      few = subst (λ (ts : List PlanTest). All (StaysNumbered o) ts) (sym own) (stays_numbered o tree planned c.parts.ensures.sound (omega (arith, counted, c.requires.few)));
    }

pub loop-tree-preserved : goal.loop-tree-preserved
loop-tree-preserved c =
    let trees = c.args.trees.now in
    let i = c.loop-tree.tree-index in
    let o = c.loop-tree.offset in
    let tree = c.tree-item.result in
    let lt = c.loop-tree-test.true in
    let tests = c.loop-tree.tests in
    let rest = drop (i + 1) trees in
    let own = c.as_slice.ensures ∙ ap (λ (p : PlanParts). p.tests) c.parts.ensures.is in
    let counted = defined_here trees i o tree lt c.tree-item.is c.loop-tree.invariant.counted in
    record {
      made =
          ap (λ (ts : List PlanTest). ts ++ tests_of_trees (o + c.len.result) rest) c.in_ok-add_tests.ensures
          ∙ ap (λ (n : ℕ). tests ++ map (renumbered o) c.as_slice.result.now ++ tests_of_trees (o + n) rest) c.len.ensures
          ∙ ap (λ (ts : List PlanTest). tests ++ map (renumbered o) ts ++ tests_of_trees (o + length tree.defs) rest) own
          ∙ append_assoc tests (map (renumbered o) tree.plan.tests) (tests_of_trees (o + length tree.defs) rest)
          ∙ ap (λ (ts : List PlanTest). tests ++ ts) (sym (ap (tests_of_trees o) (trees_from trees i tree lt c.tree-item.is)))
          ∙ c.loop-tree.invariant.made;
      counted = omega (arith, counted, c.len.ensures);
      sound = sound_more trees i tree lt c.tree-item.is c.loop-tree.invariant.sound c.parts.ensures.sound;
    }

pub returns-clause-sound : goal.returns-clause-sound
returns-clause-sound c = subst AreSound (take_all c.loop-tree.tree-index c.args.trees.now (omega (arith, c.loop-tree-test.false))) c.loop-tree.invariant.sound
