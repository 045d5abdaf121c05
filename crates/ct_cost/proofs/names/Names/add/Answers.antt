use Rattle.std.proofs.Common.{ap, ◌∙◌, map}
use Rattle.ct_base.specs.Names.{with_new_name}
use Rattle.ct_base.proofs.KeyLemmas.{with_new_name-keys}
use Rattle.ct_cost.proofs.names.Names.add.Goals as goal

pub returns : goal.returns
returns c =
    rw (c.in_ok-insert.ensures.keys, ← c.self.view_is) (with_new_name-keys c.self.inside.names.keys c.in_ok-from_slice.field-0
    ∙ ap (with_new_name (map (λ key. key.items) c.self.inside.names.keys)) c.in_ok-from_slice.ensures.items)
