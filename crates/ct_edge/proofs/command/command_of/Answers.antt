use Rattle.std.proofs.Common.{rules, ◌≡◌, ◌∷◌, Err, subst, sym}
use Rattle.std.specs.Prelude.{All, IsUtf8}
use Rattle.std.proofs.lemmas.List.Elements.{All-head, All-tail}
use Rattle.ct_edge.specs.Process.{IsTextPair}
use Rattle.ct_edge.proofs.TextLemmas.{program_is_text}
use Rattle.ct_edge.proofs.command.command_of.Goals as goal

pub returns-in_err-word_of-clause-texts : goal.returns-in_err-word_of-clause-texts
returns-in_err-word_of-clause-texts c =
    let program = c.in-Some.program.now in
    let args = c.in-Some.args.now in
    let same : c.args.request.now.command ≡ program ∷ args = search rules in
    let gave : c.from_residual-in_err-word_of.result ≡ Err c.in_err-word_of.field-0.0 = search rules in
    rw gave (λ texts. absurd (c.in_err-word_of.ensures.text (subst IsUtf8 (sym c.in_ok-program.ensures)
    (program_is_text c.args.beside program (All-head IsUtf8 program args (subst (All IsUtf8) same texts.command))))))

pub returns-in_err-add_arguments-clause-texts : goal.returns-in_err-add_arguments-clause-texts
returns-in_err-add_arguments-clause-texts c =
    let program = c.in-Some.program.now in
    let args = c.in-Some.args.now in
    let same : c.args.request.now.command ≡ program ∷ args = search rules in
    let gave : c.from_residual-in_err-add_arguments.result ≡ Err c.in_err-add_arguments.field-0.0 = search rules in
    rw gave (λ texts. c.in_err-add_arguments.ensures.texts (All-tail IsUtf8 program args (subst (All IsUtf8) same texts.command)))

pub returns-in_err-set_environment-clause-texts : goal.returns-in_err-set_environment-clause-texts
returns-in_err-set_environment-clause-texts c =
    let gave : c.from_residual-in_err-set_environment.result ≡ Err c.in_err-set_environment.field-0.0 = search rules in
    rw gave (λ texts. c.in_err-set_environment.ensures.texts (subst (All IsTextPair) (sym c.as_slice-2.ensures) texts.env))
