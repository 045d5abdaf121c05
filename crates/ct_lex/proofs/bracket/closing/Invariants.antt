use Rattle.std.proofs.Common.{◌≡◌, ◌+◌, drop, option_map}
use Rattle.ct_lex.specs.Bracket.{closing}
use Rattle.ct_lex.proofs.bracket.closing.Given as goal

abbrev pub invariant-loop-i : goal.invariant-loop-i
invariant-loop-i l = option_map (λ k. k + l.i) (closing l.n (drop l.i l.text)) ≡ closing l.n l.text
