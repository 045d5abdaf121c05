-- The line that a test brings if it is final.
use Rattle.std.proofs.Common.{◌≡◌, ◌∙◌, sym, true, false, ℕ, List, [], ◌∷◌, length, refl}
use Rattle.std.specs.Prelude.{Option, Some, None, is_none, is_some, Result, Ok, cond}
use Rattle.ct_base.specs.declared.sink.SinkFault.{SinkFault}
use Rattle.ct_base.specs.Outside.{Puts, PutsEach, SinkTell}
use Rattle.ct_verdict.specs.declared.verdict.Verdict.{Verdict}
use Rattle.ct_history.specs.declared.plan.PlanTest.{PlanTest}
use Rattle.ct_history.specs.declared.plan.PlanParts.{PlanParts}
use Rattle.ct_history.specs.declared.history.Entry.{Entry}
use Rattle.ct_history.specs.Plan.{test_at}
use Rattle.ct_history.specs.Verdicts.{verdict_at, verdict_in, verdict_of_test}
use Rattle.ct_report.specs.PutLines.{PutsLines}
use Rattle.ct_report.specs.Report.{line_with, lines_of_test, lines_with, test_line}
use Rattle.ct_report.proofs.PutLemmas.{lines_as, lines_nothing, one_line as one_put}

module _ (plan : PlanParts) (es : List Entry) (place n : ℕ) where
  -- a test brings one line if it has a verdict, else none
  pub line_count : length (lines_of_test plan es place (Some n)) ≡ cond (is_some (verdict_of_test plan es n)) 1 0
  line_count = by_test (test_at plan.tests n)
    where
      by_verdict : (t : PlanTest) (v : Option Verdict) → length (lines_with plan es place (Some t) v) ≡ cond (is_some v) 1 0
      by_verdict t None = refl
      by_verdict t (Some v) = refl

      by_test : (o : Option PlanTest) → length (lines_with plan es place o (verdict_at plan es o)) ≡ cond (is_some (verdict_at plan es o)) 1 0
      by_test None = refl
      by_test (Some t) = by_verdict t (verdict_in plan.repeat t es)

  -- a test with a verdict brings one line
  pub one_line : is_none (verdict_of_test plan es n) ≡ false → length (lines_of_test plan es place (Some n)) ≡ 1
  one_line some = line_count ∙ by (verdict_of_test plan es n) some
    where
      by : (v : Option Verdict) → is_none v ≡ false → ◌≡◌ {A = ℕ} (cond (is_some v) 1 0) 1
      by None is = cc
      by (Some v) is = refl

  -- a test without a verdict brings no line
  pub no_line_puts : (sink : SinkTell) → is_none (verdict_of_test plan es n) ≡ true → PutsLines (lines_of_test plan es place (Some n)) sink sink (Ok tt)
  no_line_puts sink none = lines_as (sym (by_test (test_at plan.tests n) none)) (lines_nothing sink)
    where
      by_verdict : (t : PlanTest) (v : Option Verdict) → is_none v ≡ true → lines_with plan es place (Some t) v ≡ []
      by_verdict t None is = refl
      by_verdict t (Some v) is = cc

      by_test : (o : Option PlanTest) → is_none (verdict_at plan es o) ≡ true → lines_with plan es place o (verdict_at plan es o) ≡ []
      by_test None is = refl
      by_test (Some t) is = by_verdict t (verdict_in plan.repeat t es) is

  -- for a test with a verdict the put of its lines is the put of one line
  pub one_line_puts : (old new : SinkTell) (result : Result (Unit {0}) SinkFault) → is_none (verdict_of_test plan es n) ≡ false → Puts (test_line plan es place (test_at plan.tests n)) old new result → PutsEach (test_line plan es place (test_at plan.tests n) ∷ []) old new result → PutsLines (lines_of_test plan es place (Some n)) old new result
  one_line_puts old new result some put each = lines_as (by_test (test_at plan.tests n) some) (one_put old new (test_line plan es place (test_at plan.tests n)) result put each)
    where
      by_verdict : (t : PlanTest) (v : Option Verdict) → is_none v ≡ false → line_with plan es place t v ∷ [] ≡ lines_with plan es place (Some t) v
      by_verdict t None is = cc
      by_verdict t (Some v) is = refl

      by_test : (o : Option PlanTest) → is_none (verdict_at plan es o) ≡ false → test_line plan es place o ∷ [] ≡ lines_with plan es place o (verdict_at plan es o)
      by_test None is = cc
      by_test (Some t) is = by_verdict t (verdict_in plan.repeat t es) is
