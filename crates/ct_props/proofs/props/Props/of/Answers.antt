use Rattle.std.proofs.Common.{rules, ◌≡◌, subst, Err}
use Rattle.ct_props.specs.PropsOf.{HasChecked}
use Rattle.ct_props.specs.FirstRefused.{IsFirstRefused}
use Rattle.ct_props.proofs.RefusalLemmas.{is_least, none_refused}
use Rattle.ct_props.proofs.props.Props.of.Goals as goal

pub returns-clause-none : goal.returns-clause-none
returns-clause-none c =
    let props : c.as_slice.result.now ≡ c.args.def.now.props = search rules in
    none_refused c.args.def.now.props c.in_ok-checked.checked (subst (λ ps. HasChecked ps c.in_ok-checked.checked) props c.in_ok-checked.ensures.ok)

pub returns-in_err-checked-clause-bad : goal.returns-in_err-checked-clause-bad
returns-in_err-checked-clause-bad c =
    let props : c.as_slice.result.now ≡ c.args.def.now.props = search rules in
    let first : IsFirstRefused c.args.def.now.props c.in_err-checked.field-0.0 = subst (λ ps. IsFirstRefused ps c.in_err-checked.field-0.0) props c.in_err-checked.ensures.bad in
    let gave : c.from_residual.result ≡ Err c.in_err-checked.field-0.0 = search rules in
    rw gave (is_least c.args.def.now.props c.in_err-checked.field-0.0 first)
