use Rattle.std.proofs.Common.{[], ℕ, List, subst, sym}
use Rattle.std.specs.Prelude.{vec_capacity}
use Rattle.ct_history.specs.declared.plan.PlanParts.{PlanParts}
use Rattle.ct_history.specs.declared.history.Entry.{Entry}
use Rattle.ct_core.specs.Order.{FollowsQueue}
use Rattle.ct_core.specs.Parts.{IsKept}
use Rattle.ct_core.proofs.OrderLemmas.{follows-nil}
use Rattle.ct_core.proofs.scheduler.Core.open.Goals as goal

pub invariant_of-result : goal.invariant_of-result
invariant_of-result c =
    let plan = c.args.plan in
    let parts = c.in-Ok.parts in
    let new = c.new.ensures in
    let begun = subst (λ (p : PlanParts). IsKept p [] 0 parts) c.parts.ensures.is c.in-Ok.ensures in
    let roomed = subst (λ (room : ℕ). IsKept plan [] room parts) (sym new.capacity) begun in
    record {
      orderly = record {
        kept = subst (λ (es : List Entry). IsKept plan es (vec_capacity c.new.result) parts) (sym new.items) roomed;
        order = subst (λ (es : List Entry). FollowsQueue plan es) (sym new.items) (follows-nil plan);
      };
      still = tt;
    }
