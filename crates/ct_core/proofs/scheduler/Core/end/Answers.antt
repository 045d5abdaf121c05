use Rattle.ct_history.specs.declared.history.Entry.TheVariants.{End}
use Rattle.ct_core.proofs.OrderLemmas.{orderly_due}
use Rattle.ct_core.proofs.scheduler.Core.end.Goals as goal

pub invariant_of-self : goal.invariant_of-self
invariant_of-self c =
    let ticket = c.args.ticket in
    record {
      orderly = orderly_due c.self.inside.run c.end.new.self c.end.ensures.kept c.end.ensures.plan (End ticket.test ticket.attempt ticket.worker c.args.seen) c.self.invariant.orderly tt c.end.ensures.ended;
      still = tt;
    }
