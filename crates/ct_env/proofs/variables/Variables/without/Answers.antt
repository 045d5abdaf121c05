use Rattle.std.proofs.Common.{◌∙◌, ap, cond, bytes_eq, map, None}
use Rattle.ct_props.specs.Values.{value_of_key}
use Rattle.ct_env.specs.Variables.{pair_of}
use Rattle.ct_env.proofs.VariableLemmas.{puts-remove_entry}
use Rattle.ct_env.proofs.variables.Variables.without.Goals as goal

pub returns : goal.returns
returns c = λ other.
    ap (λ es. value_of_key (map pair_of es) other) c.remove.ensures.entries
    ∙ puts-remove_entry c.self.inside.values.entries c.args.name.now other c.self.invariant
    ∙ ap (λ v. cond (bytes_eq c.args.name.now other) None (value_of_key v other)) c.self.view_is
