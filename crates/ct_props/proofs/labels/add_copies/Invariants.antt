use Rattle.std.proofs.Common.{◌≡◌, fold, map, take}
use Rattle.ct_base.specs.Names.{with_new_name}
use Rattle.ct_props.proofs.labels.add_copies.Given as goal

abbrev pub invariant-loop-name : goal.invariant-loop-name
invariant-loop-name l = map (λ label. label.items) l.labels.keys ≡ fold with_new_name (map (λ label. label.items) l.initial.labels.keys) (take l.name-index l.names)
