use Rattle.std.proofs.Common.{◌∙◌, ap, map}
use Rattle.ct_suite.specs.Tests.{with_prop}
use Rattle.ct_suite.specs.Props.{prop_of}
use Rattle.ct_suite.proofs.TableLemmas.{with_prop-insert_entry}
use Rattle.ct_suite.proofs.props.put.Goals as goal

pub returns : goal.returns
returns c =
    let before = c.args.keyed.now.entries in
    rw c.in_ok-insert.ensures.entries (with_prop-insert_entry before c.into_vec.result c.args.pair.value
    ∙ ap (λ name. with_prop (map prop_of before) (record { name = name; value = c.args.pair.value })) c.into_vec.ensures)
