-- How a check of the journal that a run left answers, where the files hold the same as when the run began.
-- This project's own.
use Rattle.std.specs.Prelude.{◌≡◌, ⊤, ℕ, List, ◌∷◌, Option, Some, IsSomeAnd}
use Rattle.ct_base.specs.Outside.{FilesTell, Held, SinkTell}
use Rattle.ct_history.specs.declared.history.Entry.{Entry}
use Rattle.ct_journal_text.specs.Journal.{journal_of}
use Rattle.ct_journal.specs.Check.{AnswersCheck}
use Rattle.ct_journal.specs.RecordPaths.{HoldAlike}
use Rattle.ct_journal.specs.declared.check.CheckOutcome.{CheckOutcome}
use Rattle.ct_journal.specs.declared.check.CheckOutcome.TheVariants.{Yes, FilesFault, OutputFault, Memory}
use Rattle.ct_journal.specs.declared.record.JournalEnd.{JournalEnd}
use Rattle.ct_journal.specs.declared.record.JournalEnd.TheVariants.{Written}

-- the check says yes; or the files or the sink failed, or memory ran out
abbrev pub IsNotRefused : CheckOutcome → Type 0
IsNotRefused Yes = ⊤
IsNotRefused (FilesFault path) = ⊤
IsNotRefused OutputFault = ⊤
IsNotRefused Memory = ⊤
IsNotRefused outcome = ⊥

-- the files tell what they hold, and the path holds this text
abbrev pub HoldsText : Option Held → List ℕ → List ℕ → Type 0
HoldsText told path text = IsSomeAnd told (λ held. held path ≡ Some text)

-- a journal that was written is not refused by a check of the words of its run: neither the journal, nor the
-- words, nor what is read for them. Each path that their plan asks for holds what it held when the run began.
abbrev pub ChecksAgain : List (List ℕ) → Option Held → Option (List Entry) → JournalEnd → Type 0
ChecksAgain words told history end =
    end ≡ Written
    → IsSomeAnd history (λ entries.
    (path : List ℕ) (files files_now : FilesTell) (sink sink_now : SinkTell) (outcome : CheckOutcome)
    (status : ℕ)
    → HoldAlike words told files.held
    → HoldsText files.held path (journal_of entries)
    → AnswersCheck (path ∷ words) files files_now sink sink_now outcome status
    → IsNotRefused outcome)
