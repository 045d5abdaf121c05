use Rattle.ct_history.specs.declared.history.Entry.{Entry}
use Rattle.ct_journal_text.specs.Journal.{EntryFits, noted}
use Rattle.ct_journal_text.proofs.RangeLemmas.{HoldIfRest}
use Rattle.ct_journal_text.proofs.ranges.hand_out_ranges.Given as goal

abbrev pub invariant-loop-entry : goal.invariant-loop-entry
invariant-loop-entry l = HoldIfRest (λ (entry : Entry). EntryFits (noted entry)) l.entries l.entry-index
