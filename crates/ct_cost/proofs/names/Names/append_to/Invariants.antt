use Rattle.std.proofs.Common.{◌≡◌, ◌++◌, map, flat_map, take}
use Rattle.ct_cost.specs.Text.{failed_text}
use Rattle.ct_cost.proofs.names.Names.append_to.Given as goal

abbrev pub invariant-loop-name : goal.invariant-loop-name
invariant-loop-name l = l.text ≡ l.initial.text ++ flat_map failed_text (map (λ name. name.items) (take l.name-index l.names))
