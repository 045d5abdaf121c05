use Rattle.std.proofs.Common.{◌≡◌, ◌+◌, ◌-◌, length, fold}
use Rattle.ct_cost.specs.Text.{ends_line}
use Rattle.ct_cost.specs.Reading.{after_line, parts_from}
use Rattle.ct_cost.proofs.reading.Reading.add_lines.Given as goal

abbrev pub invariant-loop-at : goal.invariant-loop-at
invariant-loop-at l = fold after_line l.self (parts_from ends_line l.text l.at) ≡ fold after_line l.initial.self (parts_from ends_line l.text l.initial.at)

abbrev pub decreases-loop-at : goal.decreases-loop-at
decreases-loop-at l = length l.text + 1 - l.at
