use Rattle.std.proofs.Common.{◌≡◌, ◌*◌, ◌-◌, ◌^◌, ℕ, min, ap, sym, ◌∙◌, refl, fold, sum_by, count_by}
use Rattle.std.proofs.lemmas.Result.{err_from_is_err_and}
use Rattle.ct_suite.specs.Tests.{HaveShort, each_where, has_name_of, most_bytes, taking_props, prop_bytes}
use Rattle.ct_suite.specs.Values.{texts}
use Rattle.ct_suite.specs.Words.{names_and_pairs}
use Rattle.ct_suite.specs.Entries.{of_name, name_count}
use Rattle.ct_testfile.specs.declared.state.State.{State}
use Rattle.ct_testfile.specs.declared.fault.ReadKind.TheVariants.{BadCall}
use Rattle.ct_suite.proofs.NameLemmas.{each-distinct, count-distinct}
use Rattle.ct_testfile.proofs.PerformLemmas.{refused-none, goes-stopped, goes-done, product-both}
use Rattle.ct_suite.proofs.WordLemmas.{Read}
use Rattle.ct_suite.proofs.ShortLemmas.{names_and_pairs-short, read-short}
use Rattle.ct_testfile.proofs.perform.set_tests_properties.Goals as goal

pub returns-in_default : goal.returns-in_default
returns-in_default c =
    refused-none (names_and_pairs (texts c.args.values)) BadCall _ (sym c.in_ok-names.ensures ∙ c.in_default.is)

pub returns-in_err-state : goal.returns-in_err-state
returns-in_err-state c =
    let state = c.args.state in
    let names = c.in-Some.names in
    let props = c.in-Some.props in
    let read : Read = (names, props) in
    let bytes : Read → ℕ = λ r. count_by (has_name_of r.0) state.tests * prop_bytes r.1 in
    let done : Read → State → State = λ r next. record next { tests = each_where (has_name_of r.0) (taking_props r.1) next.tests } in
    let count : c.count_named-tests.result ≡ min (count_by (has_name_of names) state.tests) (2 ^ 64 - 1) =
    c.count_named-tests.ensures ∙ ap (λ ns. min (sum_by (name_count state.tests) ns) (2 ^ 64 - 1)) (c.as_slice.ensures ∙ c.in_ok-different.ensures) ∙ ap (λ n. min n (2 ^ 64 - 1)) (count-distinct names state.tests) in
    let counted = product-both c.saturating_mul-bytes.result c.count_named-tests.result (count_by (has_name_of names) state.tests) c.prop_bytes.result (prop_bytes props) (2 ^ 64 - 1) count (c.prop_bytes.ensures ∙ ap (λ ps. min (prop_bytes ps) (2 ^ 64 - 1)) c.as_slice-2.ensures) c.saturating_mul-bytes.ensures in
    let p = err_from_is_err_and c.from_residual-in_err-state.result c.from_residual-in_err-state.ensures.1 in
    rw (p.1, p.2) (goes-stopped (names_and_pairs (texts c.args.values)) read (sym c.in_ok-names.ensures ∙ c.in-Some.is) c.args.limits.now state bytes done c.in_err-state.field-0.0 (c.in_err-state.ensures (bytes read) counted))

pub returns : goal.returns
returns c =
    let state = c.args.state in
    let next = c.in_ok-state.state in
    let names = c.in-Some.names in
    let props = c.in-Some.props in
    let read : Read = (names, props) in
    let bytes : Read → ℕ = λ r. count_by (has_name_of r.0) state.tests * prop_bytes r.1 in
    let done : Read → State → State = λ r n. record n { tests = each_where (has_name_of r.0) (taking_props r.1) n.tests } in
    let count : c.count_named-tests.result ≡ min (count_by (has_name_of names) state.tests) (2 ^ 64 - 1) =
    c.count_named-tests.ensures ∙ ap (λ ns. min (sum_by (name_count state.tests) ns) (2 ^ 64 - 1)) (c.as_slice.ensures ∙ c.in_ok-different.ensures) ∙ ap (λ n. min n (2 ^ 64 - 1)) (count-distinct names state.tests) in
    let counted = product-both c.saturating_mul-bytes.result c.count_named-tests.result (count_by (has_name_of names) state.tests) c.prop_bytes.result (prop_bytes props) (2 ^ 64 - 1) count (c.prop_bytes.ensures ∙ ap (λ ps. min (prop_bytes ps) (2 ^ 64 - 1)) c.as_slice-2.ensures) c.saturating_mul-bytes.ensures in
    let made : c.in_ok-set_named.field-0 ≡ each_where (has_name_of names) (taking_props props) next.tests =
    c.in_ok-set_named.ensures
    ∙ ap (fold (of_name (taking_props props)) next.tests) (c.as_slice-3.ensures ∙ c.in_ok-different.ensures)
    ∙ each-distinct (taking_props props) (λ test. refl) names next.tests in
    goes-done (names_and_pairs (texts c.args.values)) read (sym c.in_ok-names.ensures ∙ c.in-Some.is) c.args.limits.now state bytes done next (record next { tests = c.in_ok-set_named.field-0 }) (c.in_ok-state.ensures (bytes read) counted) (λ i. record next { tests = made i })

pub set_named-requires : goal.set_named-requires
set_named-requires c =
    let read : Read = (c.in-Some.names, c.in-Some.props) in
    read-short (λ (r : Read). HaveShort most_bytes r.1) (names_and_pairs (texts c.args.values)) read (sym c.in_ok-names.ensures ∙ c.in-Some.is) (names_and_pairs-short most_bytes (texts c.args.values) c.requires)
