use Rattle.std.proofs.Common.{ap, fold, sym, ◌∙◌, map, take, [], ◌∷◌, ◌++◌}
use Rattle.std.proofs.lemmas.List.{take_more}
use Rattle.std.proofs.lemmas.List.Sums.{fold-append}
use Rattle.ct_base.specs.Names.{with_new_name}
use Rattle.ct_props.proofs.labels.add_copies.Goals as goal

pub loop-name-preserved : goal.loop-name-preserved
loop-name-preserved c =
    let before = map (λ key. key.items) c.args.labels.now.keys in
    let names = c.args.names.now in
    let at = c.loop-name.name-index in
    let name = c.name-item.result in
    c.in_ok-add_copy.ensures
    ∙ ap (λ labels. with_new_name labels name) c.loop-name.invariant
    ∙ sym (fold-append with_new_name before (take at names) (name ∷ []))
    ∙ ap (fold with_new_name before) (ap (λ item. take at names ++ item ∷ []) c.name-item.is ∙ sym (take_more names at name c.loop-name-test.true))
