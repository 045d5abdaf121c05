use Rattle.std.proofs.Common.{◌≤◌, ◌-◌, drop, take}
use Rattle.ct_journal_text.specs.Found.{IsReading}
use Rattle.ct_explain.proofs.reading.read_by.Given as goal

abbrev pub invariant-loop-at : goal.invariant-loop-at
invariant-loop-at l = (l.start ≤ l.at) × IsReading l.plan l.text l.at l.audit (take (l.at - l.start) (drop l.start l.text)) l.count l.entries
