use Rattle.std.proofs.Common.{ℕ, ◌<◌, ◌≤◌, All, arith, subst}
use Rattle.std.proofs.lemmas.List.{take_all}
use Rattle.std.proofs.lemmas.List.Elements.{All-more}
use Rattle.rows_parts.proofs.planning.are_within.Goals as goal

pub loop-number-preserved : goal.loop-number-preserved
loop-number-preserved c =
    All-more (λ (number : ℕ). (0 < number) × (number ≤ c.args.count)) c.args.numbers.now c.loop-number.number-index 0 c.loop-number-test.true c.loop-number.invariant
    (omega (arith, c.if-number-eq0.false), omega (arith, c.if-number-count.false))

pub returns : goal.returns
returns c =
    subst (All (λ (number : ℕ). (0 < number) × (number ≤ c.args.count))) (take_all c.loop-number.number-index c.args.numbers.now (omega (arith, c.loop-number-test.false))) c.loop-number.invariant
