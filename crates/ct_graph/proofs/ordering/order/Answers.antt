use Rattle.std.proofs.Common.{◌≡◌, ◌∙◌, subst}
use Rattle.ct_graph.specs.Order.{IsAnswer, most_edges}
use Rattle.ct_graph.proofs.OrderLemmas.{answers_none}
use Rattle.ct_graph.proofs.ordering.order.Goals as goal

pub returns-clause-none : goal.returns-clause-none
returns-clause-none c =
    let index = c.in_ok-index.index in
    let over = c.in_ok-index.ensures in
    let defs : index.defs.now ≡ c.args.defs.now = over.defs_are ∙ c.as_slice.ensures in
    let props : index.props.now ≡ c.args.props.now = over.props_are ∙ c.as_slice-2.ensures in
    let members : index.members.now ≡ c.args.members.now = over.members_are ∙ c.as_slice-3.ensures in
    answers_none most_edges c.args.defs.now c.args.props.now c.args.members.now c.order_within.result
    (subst (λ ds. IsAnswer most_edges ds c.args.props.now c.args.members.now c.order_within.result) defs
    (subst (λ ps. IsAnswer most_edges index.defs.now ps c.args.members.now c.order_within.result) props
    (subst (λ ms. IsAnswer most_edges index.defs.now index.props.now ms c.order_within.result) members c.order_within.ensures)))
