use Rattle.std.proofs.Common.{◌≡◌, ◌∙◌, Err, length, map, subst, sym, ap, rules}
use Rattle.ct_props.specs.Numbered.{at_number}
use Rattle.ct_graph.specs.Before.{comes_before}
use Rattle.ct_graph.specs.Walk.{AreWithin, AreRanked, EndsWalk, row_of}
use Rattle.ct_graph.specs.Rows.{links_of, setups_in}
use Rattle.ct_graph.proofs.RowLemmas.{rows_within}
use Rattle.ct_graph.proofs.OrderLemmas.{orders, ends_order, links_of_rows}
use Rattle.ct_graph.proofs.ordering.order_within.Goals as goal

pub marks-requires-clause-within : goal.marks-requires-clause-within
marks-requires-clause-within c =
    let index = c.args.index in
    subst AreWithin (sym c.as_slice.ensures.value)
    (rows_within (λ number j. comes_before (at_number index.defs.now j) (at_number index.props.now j) (at_number index.props.now number)) (length index.props.now) index.members.now c.in_ok-graph.graph.before.items c.requires.indexed.inside c.in_ok-graph.ensures.before)

pub returns-in_err-marks : goal.returns-in_err-marks
returns-in_err-marks c =
    let index = c.args.index in
    let gave : c.from_residual-in_err-marks.result ≡ Err c.in_err-marks.field-0.0 = search rules in
    rw gave
    (ends_order c.args.most index.defs.now index.props.now (length index.props.now) index.members.now c.in_ok-graph.graph.before.items c.in_err-marks.field-0.0 c.in_ok-graph.ensures.few c.in_ok-graph.ensures.before
    (subst (λ rows. EndsWalk rows c.in_err-marks.field-0.0) c.as_slice.ensures.value c.in_err-marks.ensures.err))

pub returns : goal.returns
returns c =
    let index = c.args.index in
    let graph = c.in_ok-graph.graph in
    let ranked = subst (λ rows. AreRanked rows c.in_ok-marks.marks.items) c.as_slice.ensures.value c.in_ok-marks.ensures.ranked in (
      c.in_ok-graph.ensures.few,
      orders index.defs.now index.props.now (length index.props.now) index.members.now graph.before.items c.in_ok-marks.marks.items c.in_ok-links_in_order.field-0 c.in_ok-graph.ensures.before ranked c.in_ok-marks.ensures.taken
          (c.in_ok-links_in_order.ensures
          ∙ ap (λ marks. map (links_of (row_of graph.setups.items) graph.before.items marks) index.members.now) c.deref.ensures.value
          ∙ links_of_rows (setups_in index) (length index.props.now) index.members.now graph.before.items graph.setups.items c.in_ok-marks.marks.items c.in_ok-graph.ensures.setups),
    )
