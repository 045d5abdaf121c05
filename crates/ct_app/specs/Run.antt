-- How the tests of a plan ran, and how that ended. This project's own.
use Rattle.std.specs.Prelude.{◌≡◌, ℕ, min, ⊤, Bool, true, false, List, [], ◌∷◌, ◌++◌, drop, length, Option, Some, None, Result, Ok, Err, ◌==◌, if◌then◌else◌}
use Rattle.ct_base.specs.declared.sink.SinkFault.{SinkFault}
use Rattle.ct_base.specs.Outside.{SinkTell}
use Rattle.ct_history.specs.declared.plan.PlanParts.{PlanParts}
use Rattle.ct_history.specs.declared.history.Entry.{Entry}
use Rattle.ct_history.specs.History.{open_starts}
use Rattle.ct_history.specs.Legal.{IsComplete, StaysWithin, is_legal}
use Rattle.ct_history.specs.Verdicts.{are_all_final}
use Rattle.ct_core.specs.Gate.{GateTell}
use Rattle.ct_report.specs.PutLines.{PutsLines}
use Rattle.ct_report.specs.Report.{header_line, report_lines, summary_lines, test_lines}
use Rattle.ct_worker.specs.Gates.{AreAsked, Terms, are_below, had_memory}
use Rattle.ct_worker.specs.Lent.{AreLent}

-- the tests of a plan ran as far as the history goes:
-- - it is legal, leaves no start open, and stays within the limits of the plan at each moment;
-- - its workers are at most as many as the level and the gates;
-- - it agrees with what the gates were asked and told;
-- - for each attempt that a gate recorded its worker lent it a pass that held the
--   attempt's start, all passes of one turn, and the history goes on from what each had seen
pub record HasRun
    (terms : Terms) (gates_before gates_now : List GateTell) (plan : PlanParts) (entries : List Entry)
    : Type 0 where
  pub legal : is_legal plan entries ≡ true
  pub within : StaysWithin plan entries
  pub closed : open_starts entries ≡ []
  pub workers : are_below (min plan.level (length gates_before)) entries ≡ true
  pub asked : AreAsked terms 0 gates_before gates_now entries
  pub lent : AreLent plan gates_before gates_now entries

-- where the result is Ok, the run is complete and no attempt lacked memory
abbrev pub RunEnds : PlanParts → List Entry → Result (Unit {0}) SinkFault → Type 0
RunEnds plan entries (Ok done) = IsComplete plan entries × (had_memory entries ≡ true)
RunEnds plan entries (Err fault) = ⊤

-- the lines behind the header of a run that has tests: those of the tests and,
-- where all tests are final, the summary
abbrev pub lines_of_run : PlanParts → List Entry → List (List ℕ)
lines_of_run plan entries =
    test_lines plan entries ++ (if are_all_final plan entries then summary_lines plan entries else [])

-- the report was begun, with one put for each line:
-- - for a plan with tests the header was put;
-- - for a plan without tests the whole report was put;
-- - with a fault a beginning of the report was put
abbrev pub BeginsReport : PlanParts → SinkTell → SinkTell → Result Bool SinkFault → Type 0
BeginsReport plan before now (Ok true) =
    PutsLines (header_line plan ∷ []) before now (Ok tt) × ((length plan.tests == 0) ≡ false)
BeginsReport plan before now (Ok false) =
    ((entries : List Entry) → PutsLines (report_lines plan entries) before now (Ok tt))
    × ((length plan.tests == 0) ≡ true)
BeginsReport plan before now (Err fault) =
    (entries : List Entry) → PutsLines (report_lines plan entries) before now (Err fault)

-- the gates that no worker of the plan uses came back as they were
abbrev pub RestStays : {G : Type 0} → PlanParts → List G → List G → Type 0
RestStays plan before now =
    drop (min plan.level (length before)) now ≡ drop (min plan.level (length before)) before

-- the gates that no worker uses came back as they were; without a plan, all gates
abbrev pub OthersStay : {G : Type 0} → Option PlanParts → List G → List G → Type 0
OthersStay None before now = now ≡ before
OthersStay (Some plan) before now = RestStays plan before now
