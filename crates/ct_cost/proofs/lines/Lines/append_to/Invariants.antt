use Rattle.std.proofs.Common.{◌≡◌, ◌++◌, map, flat_map}
use Rattle.ct_cost.specs.Text.{cost_line_text}
use Rattle.ct_cost.specs.Kept.{kept_line}
use Rattle.ct_cost.proofs.lines.Lines.append_to.Given as goal

abbrev pub invariant-loop-name : goal.invariant-loop-name
invariant-loop-name l = l.text ++ flat_map cost_line_text (map kept_line l.name-iterator) ≡ l.initial.text ++ flat_map cost_line_text (map kept_line l.initial.name-iterator)
