use Rattle.std.proofs.Common.{◌∙◌, ap, Bool, ℕ, length}
use Rattle.std.specs.Prelude.{Ok, ◌==◌, if◌then◌else◌}
use Rattle.ct_history.specs.declared.plan.PlanParts.{PlanParts}
use Rattle.ct_app.proofs.folder.leave_files.Goals as goal

pub returns-clause-status : goal.returns-clause-status
returns-clause-status g c =
    let e = c.args.empty_is_error in
    ap (λ (status : ℕ). Ok status)
    (c.status.ensures
    ∙ ap (λ (p : PlanParts). if (if length p.tests == 0 then e else c.in_ok-failed.failed) then 8 else 0) c.parts.ensures.is
    ∙ ap (λ (b : Bool). if (if length c.args.plan.now.tests == 0 then e else b) then 8 else 0) c.in_ok-failed.ensures.failed)
