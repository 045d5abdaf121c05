use Rattle.std.proofs.Common.{sym, arith}
use Rattle.std.proofs.lemmas.List.{take_rest}
use Rattle.ct_lex.proofs.ArgsLemmas.{front_turn}
use Rattle.ct_lex.proofs.argument.gaps.Goals as goal

pub loop-at-preserved : goal.loop-at-preserved
loop-at-preserved c =
    let known = rw take_rest at c.in-Ok.ensures in
    front_turn c.args.text.now c.loop-at.at c.in-Ok.gap c.loop-at-test.true (sym known.value) (omega arith) known.within c.loop-at.invariant.1
