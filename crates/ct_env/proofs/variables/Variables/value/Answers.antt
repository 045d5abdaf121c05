use Rattle.std.proofs.Common.{◌∙◌, ap, option_map, Some}
use Rattle.ct_props.specs.Values.{value_of_key}
use Rattle.ct_env.proofs.VariableLemmas.{value_of_key-lookup}
use Rattle.ct_env.proofs.variables.Variables.value.Goals as goal

pub returns-in_err-value : goal.returns-in_err-value
returns-in_err-value c =
    rw c.from_residual.ensures (ap (option_map (λ v. v.items)) c.in_err-value.ensures.value
    ∙ value_of_key-lookup c.args.name.now c.self.inside.values.entries
    ∙ ap (λ variables. value_of_key variables c.args.name.now) c.self.view_is)

pub returns : goal.returns
returns c =
    ap Some c.as_slice.ensures.value
    ∙ ap (option_map (λ v. v.items)) c.in_ok-value.ensures.value
    ∙ value_of_key-lookup c.args.name.now c.self.inside.values.entries
    ∙ ap (λ variables. value_of_key variables c.args.name.now) c.self.view_is
