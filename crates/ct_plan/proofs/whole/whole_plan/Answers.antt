use Rattle.std.proofs.Common.{◌≡◌, ◌∙◌, List, sym, ap, subst}
use Rattle.ct_history.specs.declared.plan.PlanTest.{PlanTest}
use Rattle.ct_history.specs.declared.plan.PlanParts.{PlanParts}
use Rattle.ct_history.specs.Plan.{IsSound}
use Rattle.ct_plan.specs.declared.whole.Tree.{Tree}
use Rattle.ct_plan.specs.Queue.{IsQueue}
use Rattle.ct_plan.specs.Whole.{AreTreeParts, RunsLike, standing_in_trees}
use Rattle.ct_plan.proofs.WholeLemmas.{alike_whole, whole_parts, whole_sound}
use Rattle.ct_plan.proofs.whole.whole_plan.Goals as goal

pub new-requires : goal.new-requires
new-requires c =
    let trees = c.args.trees.now in
    let first = c.index-trees-0.result in
    let whole : PlanParts = record {
      dir = c.in_ok-dir.dir;
      tests = c.in_ok-tests.tests;
      queue = c.in_ok-queue.queue;
      resources = c.in_ok-resources.resources;
      level = c.parts-first.result.now.level;
      repeat = c.parts-first.result.now.repeat;
      stop_on_failure = c.parts-first.result.now.stop_on_failure;
    } in
    let plan_is : c.parts-first.result.now ≡ first.plan = c.parts-first.ensures.is ∙ sym (ap (λ (t : Tree). t.plan) c.index-trees-0.is) in
    let resources = c.in_ok-resources.ensures ∙ c.as_ref.ensures.value in
    let like : RunsLike whole first = record {
      resources = sym (resources ∙ ap (λ (p : PlanParts). p.resources) plan_is);
      level = sym (ap (λ (p : PlanParts). p.level) plan_is);
      repeat = sym (ap (λ (p : PlanParts). p.repeat) plan_is);
      stop = sym (ap (λ (p : PlanParts). p.stop_on_failure) plan_is);
    } in
    let alike = alike_whole trees first whole c.requires.alike c.index-trees-0.is like in
    let queued = subst (λ (ts : List PlanTest). IsQueue c.parts-first.result.now.level (standing_in_trees 0 trees) ts c.in_ok-queue.queue) c.as_slice.ensures c.in_ok-queue.ensures in
    record { sound = whole_sound whole trees c.requires.trees c.in_ok-tests.ensures.sound alike c.in_ok-tests.ensures.tests first (subst (λ (t : Tree). IsSound t.plan) (sym c.index-trees-0.is) c.parts-first.ensures.sound) like (standing_in_trees 0 trees) queued }

pub returns-clause-parts : goal.returns-clause-parts
returns-clause-parts c =
    let trees = c.args.trees.now in
    let first = c.index-trees-0.result in
    let whole : PlanParts = record {
      dir = c.in_ok-dir.dir;
      tests = c.in_ok-tests.tests;
      queue = c.in_ok-queue.queue;
      resources = c.in_ok-resources.resources;
      level = c.parts-first.result.now.level;
      repeat = c.parts-first.result.now.repeat;
      stop_on_failure = c.parts-first.result.now.stop_on_failure;
    } in
    let plan_is : c.parts-first.result.now ≡ first.plan = c.parts-first.ensures.is ∙ sym (ap (λ (t : Tree). t.plan) c.index-trees-0.is) in
    let resources = c.in_ok-resources.ensures ∙ c.as_ref.ensures.value in
    let like : RunsLike whole first = record {
      resources = sym (resources ∙ ap (λ (p : PlanParts). p.resources) plan_is);
      level = sym (ap (λ (p : PlanParts). p.level) plan_is);
      repeat = sym (ap (λ (p : PlanParts). p.repeat) plan_is);
      stop = sym (ap (λ (p : PlanParts). p.stop_on_failure) plan_is);
    } in
    let alike = alike_whole trees first whole c.requires.alike c.index-trees-0.is like in
    subst (λ (p : PlanParts). AreTreeParts p 0 trees) (sym c.new.ensures) (whole_parts whole trees c.requires.trees c.in_ok-tests.ensures.sound alike c.in_ok-tests.ensures.tests)
