use Rattle.std.proofs.Common.{map, take, Ok}
use Rattle.ct_report.specs.Lists.{test_entry}
use Rattle.ct_report.specs.PutLines.{PutsLines}
use Rattle.ct_report.proofs.lists.put_tests.Given as goal

abbrev pub invariant-loop-test : goal.invariant-loop-test
invariant-loop-test g l = PutsLines (map test_entry (take l.test-index l.tests)) (g.S.Sink.tells l.initial.sink) (g.S.Sink.tells l.sink) (Ok tt)
