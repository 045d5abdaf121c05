use Rattle.std.proofs.Common.{drop}
use Rattle.ct_explain.specs.Report.{works_lines}
use Rattle.ct_explain.proofs.PutLemmas.{LeavesToPut}
use Rattle.ct_explain.proofs.report.put_each.Given as goal

abbrev pub invariant-loop-test : goal.invariant-loop-test
invariant-loop-test g l =
    LeavesToPut (works_lines l.plan l.story l.tests) (works_lines l.plan l.story (drop l.test-index l.tests)) (g.S.Sink.tells l.initial.sink) (g.S.Sink.tells l.sink)
