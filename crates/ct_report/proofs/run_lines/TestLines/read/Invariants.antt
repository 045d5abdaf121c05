use Rattle.std.proofs.Common.{◌≡◌, take}
use Rattle.ct_report.specs.RunLines.{micros_each}
use Rattle.ct_report.proofs.run_lines.TestLines.read.Given as goal

abbrev pub invariant-loop-at : goal.invariant-loop-at
invariant-loop-at l = record {
  enabled : l.self.enabled ≡ l.initial.self.enabled;
  micros : l.self.micros.items ≡ micros_each l.tests (take l.at l.entries);
}
