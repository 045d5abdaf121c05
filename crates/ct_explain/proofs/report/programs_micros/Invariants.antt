use Rattle.std.proofs.Common.{◌≡◌, ◌≤◌, ◌*◌, ◌^◌, take}
use Rattle.ct_explain.specs.Report.{programs_micros}
use Rattle.ct_explain.proofs.report.programs_micros.Given as goal

abbrev pub invariant-loop-entry : goal.invariant-loop-entry
invariant-loop-entry l =
    (l.micros ≡ programs_micros (take l.entry-index l.entries)) × (l.micros ≤ l.entry-index * 2 ^ 64)
