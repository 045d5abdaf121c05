use Rattle.std.proofs.Common.{rules, ◌≡◌, subst, sym, Err}
use Rattle.std.specs.Prelude.{IsUtf8}
use Rattle.ct_edge.proofs.command.add_arguments.Goals as goal

pub returns-in_err-word_of-clause-texts : goal.returns-in_err-word_of-clause-texts
returns-in_err-word_of-clause-texts c =
    let gave : c.from_residual.result ≡ Err c.in_err-word_of.field-0.0 = search rules in
    rw gave (λ texts. absurd (c.in_err-word_of.ensures.text (subst IsUtf8 (sym c.arg-item.is) (texts c.loop-arg.arg-index c.arg-item.result c.loop-arg-test.true))))
