use Rattle.std.proofs.Common.{◌∙◌, length, List, map, Option, sym, ap, subst}
use Rattle.std.specs.Option.{option_copied}
use Rattle.ct_base.specs.declared.defs.Resource.{Resource}
use Rattle.ct_graph.specs.declared.ordering.Links.{Links}
use Rattle.ct_history.specs.declared.plan.PlanTest.{PlanTest}
use Rattle.ct_history.specs.Plan.{IsAscendingFrom}
use Rattle.ct_alloc.specs.Lent.{lent}
use Rattle.ct_plan.specs.PlanOf.{IsPlanOf}
use Rattle.ct_plan.specs.Source.{source}
use Rattle.ct_plan.proofs.NumberLemmas.{AreOfTests}
use Rattle.ct_plan.proofs.SoundLemmas.{links_of_tests, made_of, made_some, plan_is, plan_sound, queue_of}
use Rattle.ct_plan.proofs.planning.plan_in_order.Goals as goal

pub plan_tests-requires-clause-paired : goal.plan_tests-requires-clause-paired
plan_tests-requires-clause-paired c =
    ap length c.as_slice-props.ensures ∙ c.requires.paired ∙ ap length (sym c.as_slice-defs.ensures)

pub plan_tests-requires-clause-within : goal.plan_tests-requires-clause-within
plan_tests-requires-clause-within c =
    subst (λ ds. AreOfTests (length ds) (map (λ (l : Links). l.number) c.args.links)) (sym c.as_slice-defs.ensures)
    (links_of_tests c.args.defs.now c.args.props.now c.args.wanted.now c.in_ok-resources.resources c.args.costs.now c.requires.paired c.args.links c.requires.order)

pub queue-requires-clause-paired : goal.queue-requires-clause-paired
queue-requires-clause-paired c =
    ap length c.as_slice-props.ensures ∙ c.requires.paired ∙ ap length (sym c.as_slice-defs.ensures)

pub queue-requires-clause-ascending : goal.queue-requires-clause-ascending
queue-requires-clause-ascending c =
    let made = made_of c.args.defs.now c.args.props.now c.args.wanted.now c.in_ok-resources.resources c.args.costs.now c.as_slice-defs.result.now c.as_slice-props.result.now (lent (option_copied c.as_ref.result)) c.args.links c.in_ok-tests.tests c.as_slice-defs.ensures c.as_slice-props.ensures (ap lent c.as_ref.ensures.value ∙ c.in_ok-free.ensures.whole ∙ sym c.in_ok-resources.ensures.whole) c.in_ok-tests.ensures in
    let some = made_some c.args.defs.now c.args.props.now c.args.wanted.now c.in_ok-resources.resources c.args.costs.now c.requires.paired c.args.links c.requires.order c.in_ok-tests.tests made in
    subst (λ ts. IsAscendingFrom 1 (map (λ (t : PlanTest). t.number) ts)) (sym c.as_slice.ensures) some.ascend

pub queue-requires-clause-within : goal.queue-requires-clause-within
queue-requires-clause-within c =
    let made = made_of c.args.defs.now c.args.props.now c.args.wanted.now c.in_ok-resources.resources c.args.costs.now c.as_slice-defs.result.now c.as_slice-props.result.now (lent (option_copied c.as_ref.result)) c.args.links c.in_ok-tests.tests c.as_slice-defs.ensures c.as_slice-props.ensures (ap lent c.as_ref.ensures.value ∙ c.in_ok-free.ensures.whole ∙ sym c.in_ok-resources.ensures.whole) c.in_ok-tests.ensures in
    let some = made_some c.args.defs.now c.args.props.now c.args.wanted.now c.in_ok-resources.resources c.args.costs.now c.requires.paired c.args.links c.requires.order c.in_ok-tests.tests made in
    subst (λ ds. AreOfTests (length ds) (map (λ (t : PlanTest). t.number) c.as_slice.result.now)) (sym c.as_slice-defs.ensures)
    (subst (λ ts. AreOfTests (length c.args.defs.now) (map (λ (t : PlanTest). t.number) ts)) (sym c.as_slice.ensures) some.of_tests)

pub new-requires : goal.new-requires
new-requires c =
    let made = made_of c.args.defs.now c.args.props.now c.args.wanted.now c.in_ok-resources.resources c.args.costs.now c.as_slice-defs.result.now c.as_slice-props.result.now (lent (option_copied c.as_ref.result)) c.args.links c.in_ok-tests.tests c.as_slice-defs.ensures c.as_slice-props.ensures (ap lent c.as_ref.ensures.value ∙ c.in_ok-free.ensures.whole ∙ sym c.in_ok-resources.ensures.whole) c.in_ok-tests.ensures in
    let queued = queue_of c.args.defs.now c.args.props.now c.args.wanted.now c.in_ok-resources.resources c.args.costs.now c.as_slice-defs.result.now c.as_slice-props.result.now c.as_slice.result.now c.in_ok-tests.tests c.in_ok-queue.queue c.as_slice-defs.ensures c.as_slice-props.ensures c.as_slice.ensures c.in_ok-queue.ensures in
    record { sound = plan_sound c.args.defs.now c.args.props.now c.args.wanted.now c.in_ok-resources.resources c.args.costs.now c.requires.paired c.args.links c.requires.order c.in_ok-tests.tests made c.requires.processors c.requires.level c.requires.times c.in_ok-dir.dir c.in_ok-queue.queue queued c.in_ok-resources.ensures.distinct }

pub returns : goal.returns
returns c =
    let made = made_of c.args.defs.now c.args.props.now c.args.wanted.now c.in_ok-resources.resources c.args.costs.now c.as_slice-defs.result.now c.as_slice-props.result.now (lent (option_copied c.as_ref.result)) c.args.links c.in_ok-tests.tests c.as_slice-defs.ensures c.as_slice-props.ensures (ap lent c.as_ref.ensures.value ∙ c.in_ok-free.ensures.whole ∙ sym c.in_ok-resources.ensures.whole) c.in_ok-tests.ensures in
    let queued = queue_of c.args.defs.now c.args.props.now c.args.wanted.now c.in_ok-resources.resources c.args.costs.now c.as_slice-defs.result.now c.as_slice-props.result.now c.as_slice.result.now c.in_ok-tests.tests c.in_ok-queue.queue c.as_slice-defs.ensures c.as_slice-props.ensures c.as_slice.ensures c.in_ok-queue.ensures in
    let is = plan_is c.args.defs.now c.args.props.now c.args.wanted.now c.in_ok-resources.resources c.args.costs.now c.requires.paired c.args.links c.requires.order c.in_ok-tests.tests made c.in_ok-dir.dir c.in_ok-queue.queue c.in_ok-dir.ensures queued in
    subst (λ (resources : Option (List Resource)). IsPlanOf (source c.args.defs.now c.args.props.now c.args.wanted.now resources c.args.costs.now) c.new.result) c.in_ok-resources.ensures.whole
    (subst (IsPlanOf (source c.args.defs.now c.args.props.now c.args.wanted.now c.in_ok-resources.resources c.args.costs.now)) (sym c.new.ensures) is)
