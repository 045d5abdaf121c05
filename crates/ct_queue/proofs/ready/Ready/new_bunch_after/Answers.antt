use Rattle.std.proofs.Common.{subst}
use Rattle.ct_queue.specs.Ready.{IsOfNewBunch, NoNewBunch, ReadyValue}
use Rattle.ct_queue.proofs.ReadyLemmas.{no_new_bunch, of_new_bunch}
use Rattle.ct_queue.proofs.ready.Ready.new_bunch_after.Goals as goal

pub returns-in-Some : goal.returns-in-Some
returns-in-Some c =
    subst (λ (v : ReadyValue). IsOfNewBunch v c.args.place c.in-Some.head) c.self.view_is
    (of_new_bunch c.self.inside.order.value c.self.inside.places c.self.inside.standings.items c.self.inside.lines c.self.invariant c.args.place c.first_behind-from.result c.first_behind-from.ensures.reaches c.first_behind-from.ensures.begins c.in-Some.head c.in-Some.ensures)

pub returns-in-None : goal.returns-in-None
returns-in-None c =
    subst (λ (v : ReadyValue). NoNewBunch v c.args.place) c.self.view_is
    (no_new_bunch c.self.inside.order.value c.self.inside.places c.self.inside.standings.items c.self.inside.lines c.self.invariant c.args.place c.first_behind-from.result c.first_behind-from.ensures.reaches c.first_behind-from.ensures.begins c.in-None.ensures)
