use Rattle.std.proofs.Common.{sym}
use Rattle.ct_lex.proofs.ArgsLemmas.{arguments-kept}
use Rattle.ct_lex.proofs.args.Args.read.Goals as goal

pub invariant_of-args : goal.invariant_of-args
invariant_of-args c =
    (arguments-kept c.args.text.now c.in_ok-copy.field-0.items c.in_ok-taken.taken (sym c.in_ok-taken.ensures.value) c.in_ok-copy.ensures).begins

pub returns-clause-value : goal.returns-clause-value
returns-clause-value c =
    (arguments-kept c.args.text.now c.in_ok-copy.field-0.items c.in_ok-taken.taken (sym c.in_ok-taken.ensures.value) c.in_ok-copy.ensures).same
