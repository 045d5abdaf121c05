-- Where a run stopped before its end. This project's own.
use Rattle.std.specs.Prelude.{◌≡◌, ◌⊎◌, true, ℕ, List, [], ◌∷◌, Result, Ok, Err}
use Rattle.ct_base.specs.declared.sink.SinkFault.{SinkFault}
use Rattle.ct_base.specs.Outside.{SinkTell}
use Rattle.ct_history.specs.declared.plan.PlanParts.{PlanParts}
use Rattle.ct_history.specs.declared.history.Entry.{Entry}
use Rattle.ct_history.specs.Verdicts.{are_all_final}
use Rattle.ct_report.specs.PutLines.{PutsLines}
use Rattle.ct_report.specs.Report.{header_line, report_lines, summary_lines, test_lines}
use Rattle.ct_worker.specs.Halted.{IsHalted}

-- each test is final, the lines of the tests were put, and then a beginning of the summary
pub record StopsAtSummary
    (fault : SinkFault) (plan : PlanParts) (entries : List Entry) (before now : SinkTell) : Type 0 where
  pub final : are_all_final plan entries ≡ true
  pub middle : SinkTell
  pub lines : PutsLines (test_lines plan entries) before middle (Ok tt)
  pub cut : PutsLines (summary_lines plan entries) middle now (Err fault)

-- the run was given up among its tests, or stopped at its summary
abbrev pub StopsBehind : SinkFault → PlanParts → List Entry → SinkTell → SinkTell → Type 0
StopsBehind fault plan entries before now =
    IsHalted fault plan entries before now ⊎ StopsAtSummary fault plan entries before now

-- the header was put, and then the run stopped
pub record StopsInRun (fault : SinkFault) (plan : PlanParts) (entries : List Entry) (before now : SinkTell)
    : Type 0 where
  pub middle : SinkTell
  pub header : PutsLines (header_line plan ∷ []) before middle (Ok tt)
  pub stops : StopsBehind fault plan entries middle now

-- the history is empty, or the run stopped behind its header
abbrev pub StopsAt : SinkFault → PlanParts → List Entry → SinkTell → SinkTell → Type 0
StopsAt fault plan entries before now = (entries ≡ []) ⊎ StopsInRun fault plan entries before now

-- a beginning of the report was put, and the run stopped where this beginning ends
pub record StopsSo (fault : SinkFault) (plan : PlanParts) (entries : List Entry) (before now : SinkTell)
    : Type 0 where
  pub put : PutsLines (report_lines plan entries) before now (Err fault)
  pub at : StopsAt fault plan entries before now

-- lines were put behind others that were put whole; behind a fault none were, and the sink stays
abbrev pub PutsBehind : Result (Unit {0}) SinkFault
    → List (List ℕ) → SinkTell → SinkTell → Result (Unit {0}) SinkFault → Type 0
PutsBehind (Ok done) lines before now result = PutsLines lines before now result
PutsBehind (Err fault) lines before now result = (result ≡ Err fault) × (now ≡ before)
