use Rattle.std.proofs.Common.{◌∙◌, ◌++◌, ◌∷◌, [], ◌<◌, ◌^◌, arith, ap, subst, sym}
use Rattle.ct_history.specs.declared.audit.Audit.{Audit}
use Rattle.ct_history.specs.Course.{course_at, runs}
use Rattle.ct_history.specs.Seen.{has_failed_by}
use Rattle.ct_history.specs.Audited.{IsAuditOf}
use Rattle.ct_history.proofs.AuditedLemmas.{tells_more}
use Rattle.ct_history.proofs.audit.Audit.note_for.Goals as goal

pub returns : goal.returns
returns c front told allowed =
    let small : c.args.plan.now.repeat.times < 2 ^ 32 = omega arith in
    let mid = c.mark.new.self in
    let judged = c.has_failed-failed.ensures ∙ ap (λ o. has_failed_by c.args.plan.now (runs mid.running.items) (course_at mid.courses) o) c.test_of-number.ensures in
    subst (λ (a : Audit). IsAuditOf c.args.plan.now (front ++ c.args.entry ∷ []) a) (sym c.judge.ensures)
    (tells_more c.args.plan.now small front c.args.self.now told c.requires c.args.entry mid c.has_failed-failed.result allowed c.in_ok-mark.ensures judged)
