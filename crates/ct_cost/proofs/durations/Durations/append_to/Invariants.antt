use Rattle.std.proofs.Common.{◌≡◌, ◌++◌, take, flat_map}
use Rattle.ct_cost.specs.Text.{next_text}
use Rattle.ct_cost.proofs.durations.Durations.append_to.Given as goal

abbrev pub invariant-loop-micros : goal.invariant-loop-micros
invariant-loop-micros l = l.text ≡ l.initial.text ++ flat_map next_text (take l.micros-index l.rest)
