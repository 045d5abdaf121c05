use Rattle.std.proofs.Common.{◌∙◌, List, ap, subst, sym}
use Rattle.ct_history.specs.declared.plan.PlanParts.{PlanParts}
use Rattle.ct_history.specs.declared.history.Entry.{Entry}
use Rattle.ct_history.specs.declared.history.Entry.TheVariants.{Start}
use Rattle.ct_core.specs.Choice.{IsStartable, NoneSettles}
use Rattle.ct_core.specs.CoreValue.{CoreValue}
use Rattle.ct_core.specs.Run.{history_of_run}
use Rattle.ct_core.proofs.ChoiceLemmas.{start_takes}
use Rattle.ct_core.proofs.OrderLemmas.{orderly_with}
use Rattle.ct_core.proofs.scheduler.Core.start.Goals as goal

pub invariant_of-self-2 : goal.invariant_of-self-2
invariant_of-self-2 c =
    let start = c.args.start in
    let unsettled = subst (λ (v : CoreValue). NoneSettles v.plan v.entries) (sym c.self.view_is) c.requires.unsettled in
    let startable = subst (λ (v : CoreValue). IsStartable v.plan v.entries start) (sym c.self.view_is) c.requires.startable in
    record {
      orderly = orderly_with c.self.inside.run c.start.new.self c.start.ensures.kept c.start.ensures.plan (Start start.test start.attempt c.args.worker start.placement) c.self.invariant.orderly (unsettled, startable.first) c.in-Ok.ensures.started;
      still = tt;
    }

pub returns-in-Err : goal.returns-in-Err
returns-in-Err c =
    let old = c.args.self.now in
    let aborted = c.self.inside.aborted in
    record {
      goes_on = c.requires.goes_on;
      takes = start_takes old.plan old.entries c.args.start c.requires.unsettled c.requires.startable;
      kept =
          ap (λ (p : PlanParts). let v : CoreValue = record { plan = p; entries = history_of_run c.start.new.self; aborted = aborted } in v) c.start.ensures.plan
          ∙ ap (λ (es : List Entry). let v : CoreValue = record { plan = c.self.inside.run.plan; entries = es; aborted = aborted } in v) c.in-Err.ensures.unstarted
          ∙ c.self.view_is;
    }
