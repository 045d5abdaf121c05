use Rattle.std.proofs.Common.{◌≤◌, ap, take, arith}
use Rattle.std.specs.List.{prefix_len}
use Rattle.ct_suite.specs.Props.{is_other}
use Rattle.ct_suite.proofs.TableLemmas.{with_props-own}
use Rattle.ct_suite.proofs.props.have_own_keys.Goals as goal

pub loop-at-preserved : goal.loop-at-preserved
loop-at-preserved c =
    let pairs = c.args.pairs.now in
    let at = c.loop-at.at in
    let own : at ≤ prefix_len (is_other c.index-pairs-at.result.name) (take at pairs) = omega (arith, ap (λ prop. prefix_len (is_other prop.name) (take at pairs)) c.index-pairs-at.is, c.others.ensures, c.if-others-at.false) in
    with_props-own pairs at c.index-pairs-at.result c.loop-at-test.true c.index-pairs-at.is own c.loop-at.invariant
