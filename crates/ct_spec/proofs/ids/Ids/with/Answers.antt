use Rattle.std.proofs.Common.{sym, subst}
use Rattle.ct_spec.specs.Ids.{AreIds}
use Rattle.ct_spec.proofs.IdLemmas.{id_put}
use Rattle.ct_spec.proofs.ids.Ids.with.Goals as goal

pub returns : goal.returns
returns c = λ taken are.
    id_put c.self.inside.ids.keys c.insert.new.self.keys c.in_ok-from_slice.field-0 c.args.id.now c.in_ok-insert.field-0 c.in_ok-from_slice.ensures.items c.in_ok-insert.ensures.added c.in_ok-insert.ensures.keys taken (subst (λ ids. AreIds ids taken) (sym c.self.view_is) are)
