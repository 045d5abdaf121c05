use Rattle.std.proofs.Common.{◌≡◌, ◌*◌, ◌-◌, ◌^◌, min, ap, sym, ◌∙◌, count_by, subst}
use Rattle.std.proofs.lemmas.Result.{err_from_is_err_and}
use Rattle.ct_suite.specs.Tests.{AreShort, HaveShort, each_where, is_in_folder, most_bytes, taking_labels, labels_of, label_bytes}
use Rattle.ct_suite.specs.Values.{texts}
use Rattle.ct_suite.specs.Words.{pairs_behind}
use Rattle.ct_testfile.specs.declared.fault.ReadKind.TheVariants.{BadCall}
use Rattle.ct_testfile.proofs.PerformLemmas.{refused-none, goes-stopped, goes-done, product-is}
use Rattle.ct_suite.proofs.ShortLemmas.{labels_of-short, pairs_behind-short, read-short}
use Rattle.ct_testfile.proofs.perform.set_directory_properties.Goals as goal

pub returns-in_default : goal.returns-in_default
returns-in_default c = refused-none (pairs_behind (texts c.args.values)) BadCall _ (sym c.in_ok-props.ensures ∙ c.in_default.is)

pub returns-in_err-state : goal.returns-in_err-state
returns-in_err-state c =
    let dir = c.args.dir.now in
    let state = c.args.state in
    let tests = count_by (is_in_folder dir) state.tests in
    let bytes = product-is c.saturating_mul-bytes.result c.placed-tests.result tests c.label_bytes.result (label_bytes c.in-Some.props) (2 ^ 64 - 1) c.placed-tests.ensures (c.label_bytes.ensures ∙ ap (λ ps. min (label_bytes ps) (2 ^ 64 - 1)) c.as_slice.ensures) c.saturating_mul-bytes.ensures in
    let p = err_from_is_err_and c.from_residual-in_err-state.result c.from_residual-in_err-state.ensures.1 in
    rw (p.1, p.2) (goes-stopped (pairs_behind (texts c.args.values)) c.in-Some.props (sym c.in_ok-props.ensures ∙ c.in-Some.is) c.args.limits.now state (λ pairs. tests * label_bytes pairs) (λ pairs next. record next { tests = each_where (is_in_folder dir) (taking_labels (labels_of pairs)) next.tests }) c.in_err-state.field-0.0 (c.in_err-state.ensures (tests * label_bytes c.in-Some.props) bytes))

pub returns : goal.returns
returns c =
    let dir = c.args.dir.now in
    let state = c.args.state in
    let next = c.in_ok-state.state in
    let tests = count_by (is_in_folder dir) state.tests in
    let bytes = product-is c.saturating_mul-bytes.result c.placed-tests.result tests c.label_bytes.result (label_bytes c.in-Some.props) (2 ^ 64 - 1) c.placed-tests.ensures (c.label_bytes.ensures ∙ ap (λ ps. min (label_bytes ps) (2 ^ 64 - 1)) c.as_slice.ensures) c.saturating_mul-bytes.ensures in
    let labels : c.as_slice-3.result.now ≡ labels_of c.in-Some.props = c.as_slice-3.ensures ∙ c.in_ok-labels.ensures ∙ ap labels_of c.as_slice-2.ensures in
    let made : c.in_ok-with_labels.field-0 ≡ each_where (is_in_folder dir) (taking_labels (labels_of c.in-Some.props)) next.tests =
    c.in_ok-with_labels.ensures ∙ ap (λ ls. each_where (is_in_folder dir) (taking_labels ls) next.tests) labels in
    goes-done (pairs_behind (texts c.args.values)) c.in-Some.props (sym c.in_ok-props.ensures ∙ c.in-Some.is) c.args.limits.now state (λ pairs. tests * label_bytes pairs) (λ pairs n. record n { tests = each_where (is_in_folder dir) (taking_labels (labels_of pairs)) n.tests }) next (record next { tests = c.in_ok-with_labels.field-0 }) (c.in_ok-state.ensures (tests * label_bytes c.in-Some.props) bytes) (λ i. record next { tests = made i })

pub with_labels-requires : goal.with_labels-requires
with_labels-requires c =
    let short = read-short (HaveShort most_bytes) (pairs_behind (texts c.args.values)) c.in-Some.props (sym c.in_ok-props.ensures ∙ c.in-Some.is) (pairs_behind-short most_bytes (texts c.args.values) c.requires) in
    let labels : c.as_slice-3.result.now ≡ labels_of c.in-Some.props = c.as_slice-3.ensures ∙ c.in_ok-labels.ensures ∙ ap labels_of c.as_slice-2.ensures in
    subst (AreShort most_bytes) (sym labels) (labels_of-short most_bytes c.in-Some.props short)
