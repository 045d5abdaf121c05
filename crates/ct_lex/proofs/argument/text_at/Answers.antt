use Rattle.std.proofs.Common.{sym, refl}
use Rattle.ct_lex.proofs.RunLemmas.{run_only}
use Rattle.ct_lex.proofs.argument.text_at.Goals as goal

pub returns-then-ends_text-clause-read : goal.returns-then-ends_text-clause-read
returns-then-ends_text-clause-read c =
    run_only c.args.kind c.args.text.now c.plain_len-plain.result _ c.if-plain-text.true c.plain_len-plain.ensures.count (sym c.if-ends_text.ensures) refl
