use Rattle.std.proofs.Common.{◌∙◌, ap, map, sym}
use Rattle.std.proofs.lemmas.List.Sums.{fold_push}
use Rattle.ct_suite.specs.Tests.{with_prop}
use Rattle.ct_suite.specs.Props.{prop_of}
use Rattle.ct_suite.proofs.props.put_each.Goals as goal

pub loop-pair-preserved : goal.loop-pair-preserved
loop-pair-preserved c =
    c.in_ok-put.ensures
    ∙ ap (λ props. with_prop props c.in-Some.pair) c.loop-pair.invariant
    ∙ sym (fold_push with_prop (map prop_of c.args.keyed.now.entries) c.loop-pair.yielded c.in-Some.pair)
