use Rattle.std.proofs.Common.{drop}
use Rattle.ct_explain.specs.Report.{waited_lines}
use Rattle.ct_explain.proofs.PutLemmas.{LeavesToPut}
use Rattle.ct_explain.proofs.report.put_waited.Given as goal

abbrev pub invariant-loop-at : goal.invariant-loop-at
invariant-loop-at g l =
    LeavesToPut (waited_lines l.plan l.waits 0 l.links) (waited_lines l.plan l.waits l.at (drop l.at l.links)) (g.S.Sink.tells l.initial.sink) (g.S.Sink.tells l.sink)
