use Rattle.std.proofs.Common.{ap, ◌∙◌, map}
use Rattle.std.specs.Option.{option_flatten}
use Rattle.ct_suite.specs.Entries.{variable_of}
use Rattle.ct_suite.specs.Values.{variable_value}
use Rattle.ct_suite.proofs.TableLemmas.{value_of-lookup}
use Rattle.ct_suite.proofs.table.Table.value.Goals as goal

pub returns : goal.returns
returns c =
    c.as_ref.ensures.value
    ∙ ap option_flatten c.in_ok-value.ensures.value
    ∙ value_of-lookup c.args.name.now c.deref.result.now.entries
    ∙ ap (λ values. variable_value (map variable_of values.entries) c.args.name.now) c.deref.ensures
    ∙ ap (λ variables. variable_value variables c.args.name.now) c.self.view_is

pub returns-in_err-value : goal.returns-in_err-value
returns-in_err-value c =
    rw c.from_residual.ensures (ap option_flatten c.in_err-value.ensures.value
    ∙ value_of-lookup c.args.name.now c.deref.result.now.entries
    ∙ ap (λ values. variable_value (map variable_of values.entries) c.args.name.now) c.deref.ensures
    ∙ ap (λ variables. variable_value variables c.args.name.now) c.self.view_is)
