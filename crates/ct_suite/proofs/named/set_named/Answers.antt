use Rattle.std.proofs.Common.{◌≡◌, ◌∙◌, fold, ap, sym, subst}
use Rattle.std.proofs.lemmas.List.{take_all}
use Rattle.std.proofs.lemmas.List.Sums.{fold_push}
use Rattle.std.proofs.lemmas.Result.{IfOk-weaker}
use Rattle.ct_suite.specs.Tests.{HaveShort, most_bytes, taking_props}
use Rattle.ct_suite.specs.Entries.{of_name}
use Rattle.ct_suite.proofs.NameLemmas.{fold-next}
use Rattle.ct_suite.proofs.named.set_named.Goals as goal

pub with_props-requires : goal.with_props-requires
with_props-requires c =
    subst (HaveShort most_bytes) (sym (c.in_ok-copy_pairs.ensures ∙ c.as_slice.ensures)) c.requires

pub loop-name-preserved : goal.loop-name-preserved
loop-name-preserved c =
    let change = of_name (taking_props c.args.props) in
    let copy = c.in_ok-copy_pairs.ensures ∙ c.as_slice.ensures in
    fold-next change c.args.tests c.in-Some.front.now c.loop-name.name-index c.name-item.result c.loop-name.after c.in_ok-after.after c.loop-name-test.true c.name-item.is c.loop-name.invariant (c.in_ok-after.ensures ∙ ap (λ props. of_name (taking_props props) c.loop-name.after c.name-item.result) copy)

pub returns : goal.returns
returns c =
    let change = of_name (taking_props c.args.props) in
    let front = c.in-Some.front.now in
    let last = c.in-Some.last.now in
    let before : c.loop-name.after ≡ fold change c.args.tests front =
    c.loop-name.invariant ∙ ap (fold change c.args.tests) (take_all c.loop-name.name-index front c.loop-name-test.false) in
    let whole : fold change c.args.tests c.args.names.now ≡ change (fold change c.args.tests front) last =
    ap (fold change c.args.tests) c.in-Some.ensures.cases.0 ∙ fold_push change c.args.tests front last in
    IfOk-weaker c.with_props-2.result (λ after. after ≡ change c.loop-name.after last) (λ after. after ≡ fold change c.args.tests c.args.names.now) (λ after made. made ∙ ap (λ tests. change tests last) before ∙ sym whole) c.with_props-2.ensures
