use Rattle.std.proofs.Common.{◌∙◌, length, Err, sym, ap, subst}
use Rattle.std.specs.List.Sorted.{IsStrictlyIncreasing}
use Rattle.std.specs.Option.{option_copied}
use Rattle.std.proofs.lemmas.Result.{err_from_is_err_and}
use Rattle.ct_graph.specs.Order.{IsAnswer, most_edges}
use Rattle.ct_graph.specs.Cycle.{HasCycle}
use Rattle.ct_graph.specs.Before.{before_of}
use Rattle.ct_plan.specs.Source.{run_members, source}
use Rattle.ct_plan.specs.PlanOf.{IsPlanAnswer}
use Rattle.ct_plan.proofs.NumberLemmas.{AreOfTests, AreSome, increase, some-members}
use Rattle.ct_plan.proofs.PlanLemmas.{no_plan}
use Rattle.ct_plan.proofs.planning.plan.Goals as goal

pub order-requires-clause-ascending : goal.order-requires-clause-ascending
order-requires-clause-ascending c =
    let defs = c.args.defs.now in
    let props = c.args.props.now in
    let members = run_members (source defs props c.args.wanted.now (option_copied c.args.spec) c.args.costs.now) in
    let some : AreSome (length defs) members = some-members c.args.wanted.now.choice defs props c.requires.paired in
    subst IsStrictlyIncreasing (sym c.in_ok-members.ensures) (increase members some.ascend)

pub order-requires-clause-within : goal.order-requires-clause-within
order-requires-clause-within c =
    let defs = c.args.defs.now in
    let props = c.args.props.now in
    let members = run_members (source defs props c.args.wanted.now (option_copied c.args.spec) c.args.costs.now) in
    let some : AreSome (length defs) members = some-members c.args.wanted.now.choice defs props c.requires.paired in
    subst (AreOfTests (length defs)) (sym c.in_ok-members.ensures) some.of_tests

pub returns-in_err-ordered-clause-answer : goal.returns-in_err-ordered-clause-answer
returns-in_err-ordered-clause-answer c =
    let defs = c.args.defs.now in
    let props = c.args.props.now in
    let wanted = c.args.wanted.now in
    let resources = option_copied c.args.spec in
    let costs = c.args.costs.now in
    let fault = c.in_err-ordered.field-0.0 in
    let told = err_from_is_err_and c.from_residual-in_err-ordered.result c.from_residual-in_err-ordered.ensures.1 in
    subst (IsPlanAnswer most_edges (source defs props wanted resources costs)) (sym (told.1 ∙ ap Err told.2))
    (no_plan most_edges defs props wanted resources costs fault (subst (λ members. IsAnswer most_edges defs props members (Err fault)) c.in_ok-members.ensures c.in_err-ordered.ensures.answer))

pub returns-clause-none : goal.returns-clause-none
returns-clause-none c =
    subst (λ members. HasCycle (before_of c.args.defs.now c.args.props.now members) → ⊥) c.in_ok-members.ensures c.in_ok-ordered.ensures.none
