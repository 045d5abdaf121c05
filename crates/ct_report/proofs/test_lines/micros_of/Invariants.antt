use Rattle.std.proofs.Common.{◌≡◌, ◌^◌, min, take}
use Rattle.std.specs.Prelude.{sum_by}
use Rattle.ct_report.specs.Report.{micros_by}
use Rattle.ct_report.proofs.test_lines.micros_of.Given as goal

abbrev pub invariant-loop-entry : goal.invariant-loop-entry
invariant-loop-entry l = l.total ≡ min (sum_by (micros_by l.number) (take l.entry-index l.entries)) (10 ^ 18)
