use Rattle.std.proofs.Common.{sym, ◌∙◌}
use Rattle.ct_testfile.proofs.ConditionLemmas.{is_live-none, is_live-inner}
use Rattle.ct_testfile.proofs.ifs.Ifs.is_live.Goals as goal

pub returns-in-None : goal.returns-in-None
returns-in-None c = rw (← c.self.view_is) (sym (is_live-none c.self.inside.items.items c.in-None.ensures.item.3))

pub returns-in-Some : goal.returns-in-Some
returns-in-Some c =
    rw (← c.self.view_is) (c.is_taken.ensures ∙ sym (is_live-inner c.self.inside.items.items c.in-Some.inner.now c.in-Some.ensures.item.3.0 c.in-Some.ensures.lookup))
