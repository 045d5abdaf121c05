use Rattle.std.proofs.Common.{◌≡◌, ◌≤◌, ◌-◌, length, drop}
use Rattle.ct_lex.specs.Text.{text_from}
use Rattle.ct_lex.proofs.Reading.{parts_behind}
use Rattle.ct_lex.proofs.argument.parts_of.Given as goal

abbrev pub invariant-loop-at : goal.invariant-loop-at
invariant-loop-at l =
    (l.at ≤ length l.text) × (parts_behind l.parts l.at (text_from l.kind 0 (drop l.at l.text)) ≡ text_from l.kind 0 l.text)

abbrev pub decreases-loop-at : goal.decreases-loop-at
decreases-loop-at l = length l.text - l.at
