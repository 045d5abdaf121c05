use Rattle.std.proofs.Common.{ℕ, ◌<◌, ◌≤◌, All, take}
use Rattle.rows_parts.proofs.planning.are_within.Given as goal

abbrev pub invariant-loop-number : goal.invariant-loop-number
invariant-loop-number l = All (λ (number : ℕ). (0 < number) × (number ≤ l.count)) (take l.number-index l.numbers)
