use Rattle.std.proofs.Common.{subst, sym}
use Rattle.ct_journal_text.specs.Journal.{Says}
use Rattle.ct_journal_text.proofs.LineLemmas.{says}
use Rattle.ct_journal_text.proofs.reader.read_line.Goals as goal

pub returns : goal.returns
returns c = subst (Says c.args.line.now) (sym c.in_ok-said_of.ensures) (says c.args.line.now)
