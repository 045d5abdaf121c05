use Rattle.std.proofs.Common.{take}
use Rattle.ct_report.specs.Totals.{AreTotals}
use Rattle.ct_report.proofs.totals.totals_of.Given as goal

abbrev pub invariant-loop-test : goal.invariant-loop-test
invariant-loop-test l = AreTotals l.plan l.entries (take l.test-index l.test-items) l.totals
