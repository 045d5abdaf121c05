use Rattle.std.proofs.Common.{sym, arith}
use Rattle.std.proofs.lemmas.List.{take_rest}
use Rattle.ct_lex.proofs.StepLemmas.{start_turn}
use Rattle.ct_lex.proofs.command.start.Goals as goal

pub loop-at-preserved : goal.loop-at-preserved
loop-at-preserved c =
    let known = rw take_rest at c.in_ok-gap.ensures in
    let turn = start_turn c.args.text.now c.loop-at.at c.in_ok-gap.gap c.loop-at.behind _ c.loop-at-test.true (sym known.value) (omega arith) known.within c.loop-at.invariant.1 in
    rw c.stays_behind-behind.ensures turn
