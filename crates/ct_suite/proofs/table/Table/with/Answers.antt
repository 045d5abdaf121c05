use Rattle.std.proofs.Common.{ap, ◌∙◌, map}
use Rattle.ct_suite.specs.Values.{with_variable}
use Rattle.ct_suite.specs.Entries.{variable_of}
use Rattle.ct_suite.proofs.TableLemmas.{with_variable-insert_entry}
use Rattle.ct_suite.proofs.table.Table.with.Goals as goal

pub returns : goal.returns
returns c =
    let old = c.deref_mut.result.now.entries in
    rw (c.in_ok-insert.ensures.entries, ← c.self.view_is) (with_variable-insert_entry old c.into_vec.result c.args.value
    ∙ ap (λ name. with_variable (map variable_of old) (record { name = name; value = c.args.value })) c.into_vec.ensures
    ∙ ap (λ values. with_variable (map variable_of values.entries) (record { name = c.args.name; value = c.args.value })) c.deref_mut.ensures.value)
