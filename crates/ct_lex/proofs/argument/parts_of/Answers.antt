use Rattle.std.proofs.Common.{sym}
use Rattle.std.proofs.lemmas.List.{take_rest}
use Rattle.ct_lex.specs.Seen.{piece_of}
use Rattle.ct_lex.proofs.RunLemmas.{parts_run}
use Rattle.ct_lex.proofs.StepLemmas.{text_turn}
use Rattle.ct_lex.proofs.argument.parts_of.Goals as goal

pub loop-at-preserved-then-plain-eq0 : goal.loop-at-preserved-then-plain-eq0
loop-at-preserved-then-plain-eq0 c =
    let known = rw take_rest at c.in-Ok.ensures in
    text_turn c.args.kind c.args.text.now c.loop-at.at c.in-Ok.taken c.loop-at.parts c.add.new.self (piece_of c.in-Ok.unit) _ c.loop-at-test.true (sym c.if-ends_text.ensures) (sym known.value) known.within.0 known.within.1 c.in_ok-add.ensures c.loop-at.invariant.1

pub loop-at-preserved : goal.loop-at-preserved
loop-at-preserved c =
    let run = rw take_rest at c.plain_len-plain.ensures in
    let grows = rw take_rest at c.in_ok-add_plain.ensures in
    parts_run c.args.kind c.args.text.now c.loop-at.at c.plain_len-plain.result c.loop-at.parts c.add_plain.new.self _ c.loop-at-test.true run.count grows c.loop-at.invariant.1
