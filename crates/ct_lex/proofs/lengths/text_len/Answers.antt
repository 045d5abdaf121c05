use Rattle.std.proofs.Common.{sym}
use Rattle.std.proofs.lemmas.List.{take_rest}
use Rattle.ct_lex.proofs.RunLemmas.{count_run}
use Rattle.ct_lex.proofs.StepLemmas.{count_turn}
use Rattle.ct_lex.proofs.lengths.text_len.Goals as goal

pub loop-at-preserved-then-plain-eq0 : goal.loop-at-preserved-then-plain-eq0
loop-at-preserved-then-plain-eq0 c =
    let known = rw take_rest at c.in_ok-taken.ensures in
    count_turn c.args.kind c.args.text.now c.loop-at.at c.in_ok-taken.taken _ _ c.loop-at-test.true (sym c.if-ends_text.ensures) (sym known.value) known.within.0 known.within.1 c.loop-at.invariant.1

pub loop-at-preserved : goal.loop-at-preserved
loop-at-preserved c =
    let run = rw take_rest at c.plain_len-plain.ensures in
    count_run c.args.kind c.args.text.now c.loop-at.at c.plain_len-plain.result _ c.loop-at-test.true run.count c.loop-at.invariant.1
