-- How the run of several trees ended, from its headers, the run of its tests, and the lines of the trees.
use Rattle.std.proofs.Common.{◌≡◌, sym, ap, subst, true, Bool, List, [], ◌++◌, inl, inr}
use Rattle.std.specs.Prelude.{Result, Ok, Err, IfErr, if◌then◌else◌}
use Rattle.ct_base.specs.declared.sink.SinkFault.{SinkFault}
use Rattle.ct_base.specs.declared.sink.SinkFault.TheVariants as Sinks
use Rattle.ct_base.specs.Outside.{SinkTell}
use Rattle.ct_history.specs.declared.plan.PlanParts.{PlanParts}
use Rattle.ct_history.specs.declared.history.Entry.{Entry}
use Rattle.ct_history.specs.Verdicts.{are_all_final}
use Rattle.ct_core.specs.CoreValue.{CoreValue}
use Rattle.ct_report.specs.PutLines.{PutsLines}
use Rattle.ct_report.specs.Report.{test_lines}
use Rattle.ct_report.proofs.PutLemmas.{lines_as, lines_more, lines_none, lines_then}
use Rattle.ct_worker.specs.Halted.{IsHalted}
use Rattle.ct_app.specs.declared.outcome.Outcome.{Outcome}
use Rattle.ct_app.specs.Ends.{ended_as}
use Rattle.ct_app.specs.Run.{RunEnds}
use Rattle.ct_app.specs.Stops.{PutsBehind}
use Rattle.ct_trees.specs.declared.joining.TreeRest.{TreeRest}
use Rattle.ct_trees.specs.TreeReports.{header_lines, lines_of_trees, summaries_behind, trees_report}
use Rattle.ct_trees.specs.TreeStops.{AreStopped, StopsInTrees, TreesEnd}

-- the put of the headers failed
pub headers_cut : (trees : List TreeRest) (whole : PlanParts) (es : List Entry) (old new : SinkTell) (fault : SinkFault) → PutsLines (header_lines trees) old new (Err fault) → PutsLines (trees_report trees whole es) old new (Err fault)
headers_cut trees whole es old new fault put = lines_more old new (header_lines trees) (lines_of_trees trees whole es) fault put

module _ (trees : List TreeRest) (whole : PlanParts) (es : List Entry) (old head mid new : SinkTell) (headers : PutsLines (header_lines trees) old head (Ok tt)) where
  with_summaries : are_all_final whole es ≡ true → test_lines whole es ++ summaries_behind 0 trees es ≡ lines_of_trees trees whole es
  with_summaries final = ap (λ (b : Bool). test_lines whole es ++ (if b then summaries_behind 0 trees es else [])) (sym final)

  -- the report, or a beginning of it, was put
  pub trees_put : (put result : Result (Unit {0}) SinkFault) → PutsLines (test_lines whole es) head mid put → RunEnds whole es put → PutsBehind put (summaries_behind 0 trees es) mid new result → PutsLines (trees_report trees whole es) old new result
  trees_put (Ok done) result lines ends behind =
      lines_then old head new (header_lines trees) (lines_of_trees trees whole es) result headers
      (lines_as (with_summaries ends.0.final) (lines_then head mid new (test_lines whole es) (summaries_behind 0 trees es) result lines behind))
  trees_put (Err fault) result lines ends behind =
      subst (λ (r : Result (Unit {0}) SinkFault). PutsLines (trees_report trees whole es) old new r) (sym behind.0)
      (subst (λ (t : SinkTell). PutsLines (trees_report trees whole es) old t (Err fault)) (sym behind.1)
      (lines_then old head mid (header_lines trees) (lines_of_trees trees whole es) (Err fault) headers
      (lines_more head mid (test_lines whole es) (if are_all_final whole es then summaries_behind 0 trees es else []) fault lines)))

  -- where the run stopped
  pub trees_stop : (put result : Result (Unit {0}) SinkFault) → PutsLines (test_lines whole es) head mid put → RunEnds whole es put → IfErr put (λ fault. IsHalted fault whole es head mid) → PutsBehind put (summaries_behind 0 trees es) mid new result → IfErr result (λ fault. StopsInTrees fault trees whole es old new)
  trees_stop (Ok done) (Ok all) lines ends halted behind = tt
  trees_stop (Ok done) (Err fault) lines ends halted behind =
      inr (record { middle = head; headers = headers; stops = inr (record { final = ends.0.final; middle = mid; lines = lines; cut = behind }) })
  trees_stop (Err fault) result lines ends halted behind =
      subst (λ (r : Result (Unit {0}) SinkFault). IfErr r (λ f. StopsInTrees f trees whole es old new)) (sym behind.0)
      (subst (λ (t : SinkTell). StopsInTrees fault trees whole es old t) (sym behind.1) (inr (record { middle = head; headers = headers; stops = inl halted })))

-- the run of trees is complete, or stopped with the fault that its steps returned
ends_so : (trees : List TreeRest) (whole : PlanParts) (es : List Entry) (old new : SinkTell) (put : Result (Unit {0}) SinkFault) → PutsLines (trees_report trees whole es) old new put → RunEnds whole es put → IfErr put (λ fault. StopsInTrees fault trees whole es old new) → TreesEnd trees whole es old new (ended_as put)
ends_so trees whole es old new (Ok tt) put ends at = record { complete = ends.0; memory = ends.1; put = put }
ends_so trees whole es old new (Err Sinks.Failed) put ends at = record { put = put; at = at }
ends_so trees whole es old new (Err Sinks.NoMemory) put ends at = record { put = put; at = at }

-- how a core ran trees is how its plan and its history did
pub core_ended : (trees : List TreeRest) (old new : SinkTell) (core : CoreValue) (put : Result (Unit {0}) SinkFault) (whole : PlanParts) (es : List Entry) (ended : Result (Unit {0}) Outcome) → whole ≡ core.plan → es ≡ core.entries → PutsLines (trees_report trees core.plan core.entries) old new put → RunEnds core.plan core.entries put → IfErr put (λ fault. StopsInTrees fault trees core.plan core.entries old new) → ended ≡ ended_as put → TreesEnd trees whole es old new ended
core_ended trees old new core put whole es ended plan_is entries_are puts ends at is =
    subst (λ (p : PlanParts). TreesEnd trees p es old new ended) (sym plan_is)
    (subst (λ (xs : List Entry). TreesEnd trees core.plan xs old new ended) (sym entries_are)
    (subst (λ (o : Result (Unit {0}) Outcome). TreesEnd trees core.plan core.entries old new o) (sym is) (ends_so trees core.plan core.entries old new put puts ends at)))

-- no core was opened, and nothing was put
pub unopened_trees : (trees : List TreeRest) (sink : SinkTell) (whole : PlanParts) (es : List Entry) → es ≡ [] → AreStopped Sinks.NoMemory trees whole es sink sink
unopened_trees trees sink whole es none = record { put = lines_none sink (trees_report trees whole es); at = inl none }
