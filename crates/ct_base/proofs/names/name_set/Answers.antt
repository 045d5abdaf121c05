use Rattle.std.proofs.Common.{◌∙◌, sym, ap, ◌||◌, bytes_eq, take}
use Rattle.std.proofs.lemmas.List.Folds.{list_any_more}
use Rattle.ct_base.proofs.NameSetLemmas.{key, names_more}
use Rattle.ct_base.proofs.names.name_set.Goals as goal
use Rattle.ct_base.specs.Names.{is_among}

pub loop-name-preserved : goal.loop-name-preserved
loop-name-preserved c = λ asked.
    let at = c.loop-name.name-index in
    let names = c.args.names.now in
    names_more asked c.bytes.result.now _ _ _ (c.in_ok-insert.ensures.updates.0 (key asked)) (c.loop-name.invariant asked)
    ∙ ap (λ name. is_among asked (take at names) || bytes_eq asked name) (c.bytes.ensures ∙ c.name-item.is)
    ∙ sym (list_any_more (λ other. bytes_eq asked other) names at c.name-item.result c.loop-name-test.true)
