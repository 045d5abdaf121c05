-- The greatest size of the file of a journal, and the line for a journal that is longer. This project's own.
use Rattle.std.specs.Prelude.{ℕ, ◌≤◌, List, length, codes}
use Rattle.ct_journal.specs.declared.limit.TheConstants.{MOST_JOURNAL_BYTES}

-- the greatest number of bytes of a journal
abbrev pub most_journal_bytes : ℕ
most_journal_bytes = MOST_JOURNAL_BYTES

-- the text is no longer than a journal may be
abbrev pub HasJournalSize : List ℕ → Type 0
HasJournalSize text = length text ≤ most_journal_bytes

-- the line that is put for a journal that is too long
abbrev pub too_long_line : List ℕ
too_long_line = codes "ctest: journal: too long\n"
