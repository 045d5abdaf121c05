use Rattle.std.proofs.Common.{subst}
use Rattle.ct_queue.specs.Ready.{IsNextHead, NoHeadBehind, ReadyValue}
use Rattle.ct_queue.proofs.ReadyLemmas.{next_head_behind, no_head_behind}
use Rattle.ct_queue.proofs.ready.Ready.next_head.Goals as goal

pub returns-in-Some : goal.returns-in-Some
returns-in-Some c =
    subst (λ (v : ReadyValue). IsNextHead v c.args.place c.in-Some.head) c.self.view_is
    (next_head_behind c.self.inside.order.value c.self.inside.places c.self.inside.standings.items c.self.inside.lines c.self.invariant c.args.place c.in-Some.head c.in-Some.ensures)

pub returns-in-None : goal.returns-in-None
returns-in-None c =
    subst (λ (v : ReadyValue). NoHeadBehind v c.args.place) c.self.view_is
    (no_head_behind c.self.inside.order.value c.self.inside.places c.self.inside.standings.items c.self.inside.lines c.self.invariant c.args.place c.in-None.ensures)
