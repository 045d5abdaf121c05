use Rattle.std.proofs.Common.{◌≡◌, ◌++◌, take}
use Rattle.ct_journal_text.specs.declared.lines.JournalLine.TheVariants as Line
use Rattle.ct_journal_text.specs.Journal.{full_line, entry_lines}
use Rattle.ct_journal_text.proofs.writer.fill_within.Given as goal

abbrev pub invariant-loop-entry : goal.invariant-loop-entry
invariant-loop-entry l = l.text ≡ full_line Line.First ++ entry_lines (take l.entry-index l.entries)
