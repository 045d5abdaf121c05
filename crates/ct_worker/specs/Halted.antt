-- Where a run was given up, and what came behind that. This project's own.
use Rattle.std.specs.Prelude.{◌≡◌, ℕ, ◌+◌, Bool, true, false, List, [], ◌∷◌, ◌++◌, length, Option, Some, None, Ok, Err}
use Rattle.std.specs.List.{list_all}
use Rattle.ct_base.specs.declared.sink.SinkFault.{SinkFault}
use Rattle.ct_base.specs.declared.sink.SinkFault.TheVariants as Sinks
use Rattle.ct_base.specs.Outside.{SinkTell}
use Rattle.ct_history.specs.declared.plan.PlanParts.{PlanParts}
use Rattle.ct_history.specs.declared.history.Entry.{Entry}
use Rattle.ct_history.specs.declared.history.Entry.TheVariants.{Start, End, Settle, Stop}
use Rattle.ct_core.specs.Core.{with_due_stop}
use Rattle.ct_report.specs.PutLines.{PutsLines}
use Rattle.ct_report.specs.Report.{finished_by, lines_of_test, test_lines}

-- the entry ends an attempt
abbrev pub ends_attempt : Entry → Bool
ends_attempt (Start t a w placement) = false
ends_attempt (End t a w seen) = true
ends_attempt (Settle t cause) = false
ends_attempt Stop = false

-- these entries behind those of `front`, each with the Stop that it makes due
abbrev pub added_behind : PlanParts → List Entry → List Entry → List Entry
added_behind plan front [] = front
added_behind plan front (entry ∷ entries) =
    added_behind plan (with_due_stop plan (front ++ entry ∷ [])) entries

-- the entries of `front` and the last one, if there is one, with the Stop that it makes due
abbrev pub with_last : PlanParts → List Entry → Option Entry → List Entry
with_last plan front None = front
with_last plan front (Some entry) = with_due_stop plan (front ++ entry ∷ [])

-- the line that the last entry brings, if it makes a test final
abbrev pub last_lines : PlanParts → List Entry → Option Entry → List (List ℕ)
last_lines plan front None = []
last_lines plan front (Some entry) =
    lines_of_test plan (with_last plan front (Some entry)) (length (test_lines plan front) + 1)
    (finished_by entry)

-- a run was given up. The lines of the entries of `front` were put. At the last entry
-- behind them, or at a step that made none, the line could not be put or memory was
-- wanting. Behind that attempts ended, but no test was started and none was settled.
pub record IsHalted (fault : SinkFault) (plan : PlanParts) (entries : List Entry) (opened sink : SinkTell)
    : Type 0 where
  pub front : List Entry
  pub last : Option Entry
  pub behind : List Entry
  pub only : list_all ends_attempt behind ≡ true
  pub is : entries ≡ added_behind plan (with_last plan front last) behind
  pub middle : SinkTell
  pub put : PutsLines (test_lines plan front) opened middle (Ok tt)
  pub cut : PutsLines (last_lines plan front last) middle sink (Err fault)
  pub tried : fault ≡ Sinks.Failed → length (last_lines plan front last) ≡ 1
