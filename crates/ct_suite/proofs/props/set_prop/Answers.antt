use Rattle.std.proofs.Common.{◌≡◌, ◌∙◌, ap, arith}
use Rattle.std.specs.List.{prefix_len}
use Rattle.ct_suite.specs.Props.{is_other}
use Rattle.ct_suite.proofs.TableLemmas.{with_prop-place, with_prop-behind}
use Rattle.ct_suite.proofs.props.set_prop.Goals as goal

pub returns-then-at-len : goal.returns-then-at-len
returns-then-at-len c =
    let props = c.args.props.now in
    let at : c.others-at.result ≡ prefix_len (is_other c.args.pair.name) props.items =
    c.others-at.ensures ∙ ap (prefix_len (is_other c.args.pair.name)) c.as_slice.ensures.value in
    rw at (with_prop-place props.items c.args.pair (omega (arith, at, props.ok.0)))

pub returns : goal.returns
returns c =
    let props = c.args.props.now in
    let at : c.others-at.result ≡ prefix_len (is_other c.args.pair.name) props.items =
    c.others-at.ensures ∙ ap (prefix_len (is_other c.args.pair.name)) c.as_slice.ensures.value in
    c.in_ok-push.ensures.items ∙ with_prop-behind props.items c.args.pair (omega (arith, at, props.ok.0))
