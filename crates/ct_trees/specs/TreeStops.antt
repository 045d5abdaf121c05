-- How the run of several trees ended: its whole report was put, or where it stopped. This project's own.
use Rattle.std.specs.Prelude.{◌≡◌, ◌⊎◌, true, List, [], Result, Ok, Err}
use Rattle.ct_base.specs.declared.sink.SinkFault.{SinkFault}
use Rattle.ct_base.specs.declared.sink.SinkFault.TheVariants as Sinks
use Rattle.ct_base.specs.Outside.{SinkTell}
use Rattle.ct_history.specs.declared.plan.PlanParts.{PlanParts}
use Rattle.ct_history.specs.declared.history.Entry.{Entry}
use Rattle.ct_history.specs.Legal.{IsComplete}
use Rattle.ct_history.specs.Verdicts.{are_all_final}
use Rattle.ct_report.specs.PutLines.{PutsLines}
use Rattle.ct_report.specs.Report.{test_lines}
use Rattle.ct_worker.specs.Gates.{had_memory}
use Rattle.ct_worker.specs.Halted.{IsHalted}
use Rattle.ct_app.specs.declared.outcome.Outcome.{Outcome}
use Rattle.ct_app.specs.declared.outcome.Outcome.TheVariants.{OutputFault, Memory}
use Rattle.ct_trees.specs.declared.joining.TreeRest.{TreeRest}
use Rattle.ct_trees.specs.TreeReports.{header_lines, summaries_behind, trees_report}

-- each test is final, no start is open, no attempt lacked memory, and the whole report was put, line by line
pub record AreReported
    (trees : List TreeRest) (whole : PlanParts) (entries : List Entry) (before now : SinkTell) : Type 0 where
  pub complete : IsComplete whole entries
  pub memory : had_memory entries ≡ true
  pub put : PutsLines (trees_report trees whole entries) before now (Ok tt)

-- each test is final, the lines of the tests were put, and then a beginning of the lines of the trees
pub record StopsAtSummaries
    (fault : SinkFault) (trees : List TreeRest) (whole : PlanParts) (entries : List Entry)
    (before now : SinkTell) : Type 0 where
  pub final : are_all_final whole entries ≡ true
  pub middle : SinkTell
  pub lines : PutsLines (test_lines whole entries) before middle (Ok tt)
  pub cut : PutsLines (summaries_behind 0 trees entries) middle now (Err fault)

-- the headers were put, and then the run was given up among its tests, or stopped at the lines of the trees
pub record StopsBehindHeaders
    (fault : SinkFault) (trees : List TreeRest) (whole : PlanParts) (entries : List Entry)
    (before now : SinkTell) : Type 0 where
  pub middle : SinkTell
  pub headers : PutsLines (header_lines trees) before middle (Ok tt)
  pub stops : IsHalted fault whole entries middle now ⊎ StopsAtSummaries fault trees whole entries middle now

-- the history is empty, or the run stopped behind the headers
abbrev pub StopsInTrees : SinkFault
    → List TreeRest → PlanParts → List Entry → SinkTell → SinkTell → Type 0
StopsInTrees fault trees whole entries before now =
    (entries ≡ []) ⊎ StopsBehindHeaders fault trees whole entries before now

-- a beginning of the report was put, and the run stopped where this beginning ends
pub record AreStopped
    (fault : SinkFault) (trees : List TreeRest) (whole : PlanParts) (entries : List Entry)
    (before now : SinkTell) : Type 0 where
  pub put : PutsLines (trees_report trees whole entries) before now (Err fault)
  pub at : StopsInTrees fault trees whole entries before now

-- how the run of trees ended: complete, with a fault of the sink, or out of memory
abbrev pub TreesEnd : List TreeRest
    → PlanParts → List Entry → SinkTell → SinkTell → Result (Unit {0}) Outcome → Type 0
TreesEnd trees whole entries before now (Ok done) = AreReported trees whole entries before now
TreesEnd trees whole entries before now (Err OutputFault) =
    AreStopped Sinks.Failed trees whole entries before now
TreesEnd trees whole entries before now (Err Memory) =
    AreStopped Sinks.NoMemory trees whole entries before now
TreesEnd trees whole entries before now ended = ⊥
