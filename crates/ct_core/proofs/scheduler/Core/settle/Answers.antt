use Rattle.std.proofs.Common.{subst, sym}
use Rattle.ct_history.specs.declared.history.Entry.TheVariants.{Settle}
use Rattle.ct_core.specs.Choice.{IsLeastToSettle}
use Rattle.ct_core.specs.CoreValue.{CoreValue}
use Rattle.ct_core.specs.Run.{history_of_run}
use Rattle.ct_core.proofs.OrderLemmas.{orderly, orderly_due}
use Rattle.ct_core.proofs.scheduler.Core.settle.Goals as goal
use Rattle.ct_core.proofs.scheduler.Core.settle.Goals.{in-Ok, in-Err}

pub invariant_of-self : goal.invariant_of-self
invariant_of-self c =
    let old = c.self.inside.run in
    let least = subst (λ (v : CoreValue). IsLeastToSettle v.plan v.entries c.args.test c.args.cause) (sym c.self.view_is) c.requires.least in
    record {
      orderly =
          elim c.match-settle.branch [
            | in-Ok w ↦ orderly_due old c.settle.new.self c.settle.ensures.kept c.settle.ensures.plan (Settle c.args.test c.args.cause) c.self.invariant.orderly least w.in-Ok.ensures.settled
            | in-Err w ↦ orderly old c.settle.new.self c.settle.ensures.kept c.settle.ensures.plan (history_of_run old) w.in-Err.ensures.unsettled c.self.invariant.orderly.order
          ];
      still = tt;
    }
