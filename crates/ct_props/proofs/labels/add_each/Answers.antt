use Rattle.std.proofs.Common.{ap, sym, ◌∙◌, map, [], ◌∷◌}
use Rattle.std.proofs.lemmas.List.Sums.{fold-append}
use Rattle.ct_base.specs.Names.{with_new_name}
use Rattle.ct_base.proofs.KeyLemmas.{with_new_name-keys}
use Rattle.ct_props.proofs.labels.add_each.Goals as goal

pub loop-name-preserved : goal.loop-name-preserved
loop-name-preserved c =
    ap (map (λ key. key.items)) c.in_ok-insert.ensures.keys
    ∙ with_new_name-keys c.loop-name.labels.keys c.into_vec.result
    ∙ (λ i. with_new_name (c.loop-name.invariant i) (c.into_vec.ensures i))
    ∙ sym (fold-append with_new_name (map (λ key. key.items) c.args.labels.now.keys) c.loop-name.yielded (c.in-Some.name ∷ []))
