use Rattle.std.proofs.Common.{◌∙◌, ap, cond, bytes_eq, map, Some}
use Rattle.ct_props.specs.Values.{value_of_key}
use Rattle.ct_env.specs.Variables.{pair_of}
use Rattle.ct_env.proofs.VariableLemmas.{puts-insert_entry}
use Rattle.ct_env.proofs.variables.Variables.with_value.Goals as goal

pub returns : goal.returns
returns c = λ other.
    ap (λ es. value_of_key (map pair_of es) other) c.in_ok-insert.ensures.entries
    ∙ puts-insert_entry c.self.inside.values.entries c.in_ok-from_slice.field-0 c.args.value other
    ∙ (λ i. cond (bytes_eq (c.in_ok-from_slice.ensures.items i) other) (Some c.args.value.items) (value_of_key (c.self.view_is i) other))
