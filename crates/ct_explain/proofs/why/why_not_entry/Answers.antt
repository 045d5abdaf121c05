use Rattle.std.proofs.Common.{rules, ◌≡◌, ◌∙◌, ◌<◌, ◌^◌, ap, true, false, Some, IfOk, subst, sym}
use Rattle.std.specs.Prelude.{is_some}
use Rattle.ct_history.specs.Plan.{test_at}
use Rattle.ct_history.specs.Legal.{is_stop_due}
use Rattle.ct_history.specs.Verdicts.{verdict_of_test}
use Rattle.ct_history.specs.Course.{course_at, runs}
use Rattle.ct_history.specs.Seen.{verdict_by_number}
use Rattle.ct_explain.specs.declared.why.Why.{Why}
use Rattle.ct_explain.specs.Reasons as Reasons
use Rattle.ct_explain.proofs.WaitLemmas.{says_verdict}
use Rattle.ct_explain.proofs.WhyLemmas.{why_found}
use Rattle.ct_explain.proofs.why.why_not_entry.Goals as goal

pub returns-then-is_some : goal.returns-then-is_some
returns-then-is_some c front told allowed =
    let small : c.args.plan.now.repeat.times < 2 ^ 32 = rw c.parts-parts.ensures.is at c.hand_out_times.ensures in
    let undue : is_stop_due c.args.plan.now front ≡ false = sym told.due ∙ sym c.is_stop_due.ensures ∙ c.if-is_stop_due.false in
    let found : test_at c.args.plan.now.tests c.in-Some.number ≡ Some c.in-Some-planned_test.test.now = search rules in
    let seen : is_some (verdict_by_number c.args.plan.now (runs c.args.audit.now.running.items) (course_at c.args.audit.now.courses) c.in-Some.number) ≡ true = search rules in
    let judged : is_some (verdict_of_test c.args.plan.now front c.in-Some.number) ≡ true = ap is_some (sym (says_verdict c.args.plan.now small front c.args.audit.now told c.in-Some.number)) ∙ seen in
    why_found c.args.plan.now front c.args.line (Reasons.line_test c.args.line) c.in-Some.number c.in-Some-planned_test.test.now true (sym c.test_of.ensures ∙ c.in-Some.is) undue found judged

pub returns : goal.returns
returns c front told allowed =
    let small : c.args.plan.now.repeat.times < 2 ^ 32 = rw c.parts-parts.ensures.is at c.hand_out_times.ensures in
    let undue : is_stop_due c.args.plan.now front ≡ false = sym told.due ∙ sym c.is_stop_due.ensures ∙ c.if-is_stop_due.false in
    let found : test_at c.args.plan.now.tests c.in-Some.number ≡ Some c.in-Some-planned_test.test.now = search rules in
    let seen : is_some (verdict_by_number c.args.plan.now (runs c.args.audit.now.running.items) (course_at c.args.audit.now.courses) c.in-Some.number) ≡ false = search rules in
    let judged : is_some (verdict_of_test c.args.plan.now front c.in-Some.number) ≡ false = ap is_some (sym (says_verdict c.args.plan.now small front c.args.audit.now told c.in-Some.number)) ∙ seen in
    let is = why_found c.args.plan.now front c.args.line (Reasons.line_test c.args.line) c.in-Some.number c.in-Some-planned_test.test.now false (sym c.test_of.ensures ∙ c.in-Some.is) undue found judged in
    subst (λ (w : Why). IfOk c.why_not_of.result (λ why. why ≡ w)) is (c.why_not_of.ensures front told allowed)
