use Rattle.std.proofs.Common.{◌≡◌, Bool, true, cond, ap, sym, ◌∙◌, map, [], ◌∷◌, ◌++◌}
use Rattle.ct_base.specs.Names.{is_among, with_new_name}
use Rattle.ct_base.proofs.KeyLemmas.{is_among-keys, with_new_name-keys}
use Rattle.ct_props.proofs.labels.add_copy.Goals as goal

pub returns-then-contains : goal.returns-then-contains
returns-then-contains c =
    let keys = c.args.labels.now.keys in
    let labels = map (λ key. key.items) keys in
    let name = c.args.name.now in
    let known : is_among name labels ≡ true =
    ap (λ bytes. is_among bytes labels) (sym c.bytes.ensures)
    ∙ sym (is_among-keys c.bytes.result.now keys)
    ∙ sym c.contains.ensures
    ∙ c.if-contains.true in
    sym (ap (λ (is : Bool). cond is labels (labels ++ name ∷ [])) known)

pub returns : goal.returns
returns c =
    let keys = c.args.labels.now.keys in
    ap (map (λ key. key.items)) c.in_ok-insert.ensures.keys
    ∙ with_new_name-keys keys c.in_ok-from_slice.field-0
    ∙ ap (with_new_name (map (λ key. key.items) keys)) (c.in_ok-from_slice.ensures.items ∙ c.bytes-2.ensures)
