use Rattle.std.proofs.Common.{◌∙◌, ap}
use Rattle.std.specs.Result.{is_ok}
use Rattle.ct_lex.specs.Text.{argument_by}
use Rattle.ct_lex.proofs.ArgsLemmas.{argument-read_by}
use Rattle.ct_lex.proofs.argument.argument_at.Goals as goal

pub plain_at-requires : goal.plain_at-requires
plain_at-requires c =
    let text = c.args.text.now in record { whole = ap (λ found. is_ok (argument_by text found)) c.in-None.ensures.value ∙ argument-read_by text c.requires.whole }
