use Rattle.std.proofs.Common.{rules, ◌≡◌, ◌∙◌, ◌-◌, ◌^◌, ◌<◌, not, ◌&&◌, ap, subst, length, get_or, List, Option}
use Rattle.ct_verdict.specs.declared.verdict.Verdict.{Verdict}
use Rattle.ct_history.specs.declared.plan.PlanTest.{PlanTest}
use Rattle.ct_history.specs.Course.{verdict_by}
use Rattle.ct_history.specs.Verdicts.{verdict_in}
use Rattle.ct_report.specs.Report.{is_good_in, has_label}
use Rattle.ct_report.specs.Totals.{AddsToTotals}
use Rattle.ct_report.proofs.TotalLemmas.{counted_below, final_there, has_room, one_test_more}
use Rattle.ct_report.proofs.totals.totals_of.Goals as goal

pub add_test-requires : goal.add_test-requires
add_test-requires c =
    let below : c.loop-test.test-index < 2 ^ 64 - 1 = search rules in
    record {
      good = counted_below c.loop-test.totals.good (2 ^ 64 - 1) (λ u. is_good_in (verdict_in c.args.plan.now.repeat u c.args.entries.now)) c.as_slice-test-items.result.now c.loop-test.test-index c.loop-test-test.true below c.loop-test.invariant.good;
      labelled = has_room c.loop-test.totals.labelled (λ label (u : PlanTest). not u.disabled && has_label label u) c.as_slice-test-items.result.now c.loop-test.test-index c.loop-test-test.true below c.loop-test.invariant.labelled;
      labelled_good = has_room c.loop-test.totals.labelled_good (λ label (u : PlanTest). is_good_in (verdict_in c.args.plan.now.repeat u c.args.entries.now) && has_label label u) c.as_slice-test-items.result.now c.loop-test.test-index c.loop-test-test.true below c.loop-test.invariant.labelled_good;
    }

pub loop-test-init : goal.loop-test-init
loop-test-init c = c.no_totals-totals.ensures c.args.plan.now c.args.entries.now

pub loop-test-preserved : goal.loop-test-preserved
loop-test-preserved c =
    let plan = c.args.plan.now in
    let entries = c.args.entries.now in
    let tests = c.as_slice-test-items.result.now in
    let t = c.test-item.result in
    let before = c.loop-test.totals in
    let after = c.add_test.new.totals in
    let same : tests ≡ plan.tests = c.as_slice-test-items.ensures in
    let final = final_there plan entries c.loop-test.test-index t c.requires.ended (subst (λ (ts : List PlanTest). c.loop-test.test-index < length ts) same c.loop-test-test.true) (subst (λ (ts : List PlanTest). t ≡ get_or ts c.loop-test.test-index t) same c.test-item.is) in
    let found : c.verdict_by-verdict.result ≡ verdict_in plan.repeat t entries = c.verdict_by-verdict.ensures ∙ ap (verdict_by t) c.course_at.ensures ∙ c.in_ok-courses.ensures.verdicts plan.repeat t final in
    one_test_more plan entries tests c.loop-test.test-index t c.loop-test-test.true c.test-item.is before after c.loop-test.invariant
    (subst (λ (v : Option Verdict). AddsToTotals t v before after) found c.in_ok-add_test.ensures)
