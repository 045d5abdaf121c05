-- What a check finds of a journal: that it is accepted, its first line that is not good, or that it is too
-- long. This project's own.
use Rattle.std.specs.Prelude.{◌≡◌, ◌⊎◌, ℕ, ◌<◌, List, ◌++◌, length, codes, decimal, Option, Some, None}
use Rattle.ct_history.specs.declared.plan.PlanParts.{PlanParts}
use Rattle.ct_journal_text.specs.Found.{Finds, IsAccepted, IsSoleFinding}
use Rattle.ct_journal.specs.File.{HasJournalSize, most_journal_bytes}
use Rattle.ct_journal.specs.declared.check_find.Finding.{Finding}
use Rattle.ct_journal.specs.declared.check_find.Finding.TheVariants.{Accepted, Refused, TooLong}

-- the text that was read is the journal of a complete legal history for the plan, and not too long; so no
-- line of it is refused
abbrev pub IsGoodJournal : PlanParts → Option (List ℕ) → Type 0
IsGoodJournal plan None = ⊥
IsGoodJournal plan (Some text) = HasJournalSize text × IsAccepted plan text × IsSoleFinding plan text None

-- the text that was read is not too long, and the line with this number is its first that is not good; so the
-- text is not accepted, nor refused at another line. Of an absent file this is line 1.
abbrev pub IsBadJournal : PlanParts → Option (List ℕ) → ℕ → Type 0
IsBadJournal plan None line = line ≡ 1
IsBadJournal plan (Some text) line =
    HasJournalSize text × Finds plan text (Some line) × IsSoleFinding plan text (Some line)

-- the text that was read is longer than a journal may be
abbrev pub IsLongJournal : Option (List ℕ) → Type 0
IsLongJournal None = ⊥
IsLongJournal (Some text) = most_journal_bytes < length text

-- this was read of what a path holds: all of it, unless both are longer than a journal may be
abbrev pub IsReadOf : Option (List ℕ) → Option (List ℕ) → Type 0
IsReadOf held read = (read ≡ held) ⊎ (IsLongJournal held × IsLongJournal read)

-- what is found of what was read of a journal
abbrev pub IsFinding : PlanParts → Option (List ℕ) → Finding → Type 0
IsFinding plan read Accepted = IsGoodJournal plan read
IsFinding plan read (Refused line) = IsBadJournal plan read line
IsFinding plan read TooLong = IsLongJournal read

-- the line that is printed for an accepted journal
abbrev pub accepted_line : List ℕ
accepted_line = codes "journal accepted\n"

-- the line that is printed for a journal whose line with this number is refused
abbrev pub refused_line : ℕ → List ℕ
refused_line line = codes "journal refused at line " ++ decimal line ++ codes "\n"
