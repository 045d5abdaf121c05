use Rattle.std.proofs.Common.{sym}
use Rattle.std.proofs.lemmas.List.{take_rest}
use Rattle.ct_lex.proofs.ArgsLemmas.{quoted-found}
use Rattle.ct_lex.proofs.argument.plain_at.Goals as goal

pub text_at-requires : goal.text_at-requires
text_at-requires c = rw take_rest (record { whole = quoted-found c.args.text.now c.requires.whole (sym c.if-stands.ensures) })
