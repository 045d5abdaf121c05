use Rattle.std.proofs.Common.{◌≤◌, ◌-◌, List, drop, take}
use Rattle.ct_history.specs.declared.history.Entry.{Entry}
use Rattle.ct_journal_text.specs.Found.{IsReading}
use Rattle.ct_journal_text.proofs.text.check_by.Given as goal

abbrev pub invariant-loop-at : goal.invariant-loop-at
invariant-loop-at l = (entries : List Entry) × (l.start ≤ l.at) × IsReading l.plan l.text l.at l.audit (take (l.at - l.start) (drop l.start l.text)) l.count entries
