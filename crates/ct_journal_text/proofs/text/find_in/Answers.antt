use Rattle.std.proofs.Common.{inl, refl}
use Rattle.ct_journal_text.proofs.text.find_in.Goals as goal

pub returns-in-None : goal.returns-in-None
returns-in-None c = inl (refl, c.in-None.ensures.none refl)
