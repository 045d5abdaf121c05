-- The report of a run is its header, its lines and its summary, in this order.
use Rattle.std.proofs.Common.{◌≡◌, sym, ap, true, false, Bool, ℕ, List, [], ◌∷◌, ◌++◌, length, refl, arith}
use Rattle.std.specs.Prelude.{Result, Ok, Err, codes, ◌==◌, if◌then◌else◌}
use Rattle.std.specs.List.{list_all}
use Rattle.std.proofs.Common.{eqb-true}
use Rattle.ct_base.specs.declared.sink.SinkFault.{SinkFault}
use Rattle.ct_base.specs.Outside.{SinkTell}
use Rattle.ct_history.specs.declared.plan.PlanTest.{PlanTest}
use Rattle.ct_history.specs.declared.plan.PlanParts.{PlanParts}
use Rattle.ct_history.specs.declared.history.Entry.{Entry}
use Rattle.ct_history.specs.History.{open_starts}
use Rattle.ct_history.specs.Legal.{IsComplete}
use Rattle.ct_history.specs.Verdicts.{are_all_final, is_final_in}
use Rattle.ct_report.specs.PutLines.{PutsLines}
use Rattle.ct_report.specs.Report.{body_lines, header_line, report_lines, summary_lines, test_lines}
use Rattle.ct_app.specs.Run.{lines_of_run}
use Rattle.ct_report.proofs.PutLemmas.{lines_as, lines_more, lines_then}

-- where the put of the header failed, a beginning of the report was put
pub header_fails : (plan : PlanParts) (es : List Entry) (old new : SinkTell) (fault : SinkFault) → PutsLines (header_line plan ∷ []) old new (Err fault) → PutsLines (report_lines plan es) old new (Err fault)
header_fails plan es old new fault head = lines_more old new (header_line plan ∷ []) (body_lines plan es plan.tests) fault head

module _ (plan : PlanParts) (es : List Entry) where
  -- a plan without tests
  module _ (none : (length plan.tests == 0) ≡ true) where
    none_tests : plan.tests ≡ []
    none_tests = by_tests plan.tests none
      where
        by_tests : (ts : List PlanTest) → (length ts == 0) ≡ true → ts ≡ []
        by_tests [] is = refl
        by_tests (t ∷ ts) is = absurd (omega (arith, eqb-true (length (t ∷ ts)) 0 is))

    none_lines : report_lines plan es ≡ header_line plan ∷ codes "No tests were found!!!\n" ∷ []
    none_lines = ap (λ (ts : List PlanTest). header_line plan ∷ body_lines plan es ts) none_tests

    pub none_puts : (old mid new : SinkTell) (result : Result (Unit {0}) SinkFault) → PutsLines (header_line plan ∷ []) old mid (Ok tt) → PutsLines (codes "No tests were found!!!\n" ∷ []) mid new result → PutsLines (report_lines plan es) old new result
    none_puts old mid new result head line = lines_as (sym none_lines) (lines_then old mid new (header_line plan ∷ []) (codes "No tests were found!!!\n" ∷ []) result head line)

    pub none_complete : open_starts es ≡ [] → IsComplete plan es
    none_complete closed = record {
      final = ap (λ (ts : List PlanTest). list_all (λ (t : PlanTest). is_final_in plan.repeat t es) ts) none_tests;
      closed = closed;
    }

  -- a plan with tests
  module _ (some : (length plan.tests == 0) ≡ false) where
    body_is : report_lines plan es ≡ header_line plan ∷ lines_of_run plan es
    body_is = ap (λ (ls : List (List ℕ)). header_line plan ∷ ls) (by_tests plan.tests some)
      where
        by_tests : (ts : List PlanTest) → (length ts == 0) ≡ false → body_lines plan es ts ≡ lines_of_run plan es
        by_tests [] is = absurd (let no : true ≡ false = is in cc)
        by_tests (t ∷ ts) is = refl

    -- the header and the lines behind it are the report
    pub body_puts : (old mid new : SinkTell) (result : Result (Unit {0}) SinkFault) → PutsLines (header_line plan ∷ []) old mid (Ok tt) → PutsLines (lines_of_run plan es) mid new result → PutsLines (report_lines plan es) old new result
    body_puts old mid new result head body = lines_as (sym body_is) (lines_then old mid new (header_line plan ∷ []) (lines_of_run plan es) result head body)

-- where the put of the tests' lines failed, a beginning of the lines of the run was put
pub lines_fail : (plan : PlanParts) (es : List Entry) (old new : SinkTell) (fault : SinkFault) → PutsLines (test_lines plan es) old new (Err fault) → PutsLines (lines_of_run plan es) old new (Err fault)
lines_fail plan es old new fault lines = lines_more old new (test_lines plan es) (if are_all_final plan es then summary_lines plan es else []) fault lines

-- the lines of all tests, and the summary or a beginning of it, were put
pub summary_puts : (plan : PlanParts) (es : List Entry) (old mid new : SinkTell) (result : Result (Unit {0}) SinkFault) → are_all_final plan es ≡ true → PutsLines (test_lines plan es) old mid (Ok tt) → PutsLines (summary_lines plan es) mid new result → PutsLines (lines_of_run plan es) old new result
summary_puts plan es old mid new result final lines end =
    let rest : summary_lines plan es ≡ (if are_all_final plan es then summary_lines plan es else []) = ap (λ (b : Bool). if b then summary_lines plan es else []) (sym final) in
    lines_as (ap (λ (ls : List (List ℕ)). test_lines plan es ++ ls) rest) (lines_then old mid new (test_lines plan es) (summary_lines plan es) result lines end)
