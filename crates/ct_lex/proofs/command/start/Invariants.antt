use Rattle.std.proofs.Common.{◌≡◌, ◌≤◌, ◌-◌, length, drop}
use Rattle.ct_lex.specs.Command.{start_from, shifted}
use Rattle.ct_lex.proofs.command.start.Given as goal

abbrev pub invariant-loop-at : goal.invariant-loop-at
invariant-loop-at l =
    (l.at ≤ length l.text) × (shifted l.at (start_from l.behind 0 (drop l.at l.text)) ≡ start_from l.fn.behind_command 0 l.text)

abbrev pub decreases-loop-at : goal.decreases-loop-at
decreases-loop-at l = length l.text - l.at
