use Rattle.std.proofs.Common.{◌≡◌, sym, subst, List, rules}
use Rattle.ct_core.specs.declared.ticket.Ticket.{Ticket}
use Rattle.measure.specs.Held.{AreTicketsOf}
use Rattle.measure.proofs.HeldLemmas.{free_worker, held_settle, held_start}
use Rattle.measure.proofs.drive.run.Run.ask.Goals as goal

pub next-requires : goal.next-requires
next-requires c = free_worker c.args.self.now.core.entries c.args.self.now.tickets.items c.args.worker c.requires (search rules)

pub returns-in-Start : goal.returns-in-Start
returns-in-Start c =
    let held = subst (λ (ts : List Ticket). AreTicketsOf c.args.self.now.core.entries ts) (sym c.reserve.ensures.items) c.requires in
    subst (λ (ts : List Ticket). AreTicketsOf c.next.new.self.entries ts) (sym c.push_reserved.ensures.items)
    (held_start c.args.self.now.core c.args.worker c.in-Start.ticket c.next.new.self c.reserve.new.self.items held c.in-Start.ensures.step)

pub returns-in-Settled : goal.returns-in-Settled
returns-in-Settled c =
    let held = subst (λ (ts : List Ticket). AreTicketsOf c.args.self.now.core.entries ts) (sym c.reserve.ensures.items) c.requires in
    held_settle c.args.self.now.core c.in-Settled.field-0 c.next.new.self c.reserve.new.self.items held c.in-Settled.ensures.step
