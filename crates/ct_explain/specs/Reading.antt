-- What a text is found to be: the journal of a complete legal history, or a text whose first line that is not
-- good is refused for a reason. This project's own.
use Rattle.std.specs.Prelude.{ℕ, ◌+◌, ◌≡◌, ◌⊎◌, ◌++◌, Bool, true, false, List, [], ◌∷◌, length, Option}
use Rattle.ct_history.specs.declared.plan.PlanParts.{PlanParts}
use Rattle.ct_history.specs.declared.history.Entry.{Entry}
use Rattle.ct_history.specs.Legal.{IsComplete, is_allowed, is_legal}
use Rattle.ct_history.specs.declared.audit.Audit.{Audit}
use Rattle.ct_history.specs.Audited.{IsAuditOf}
use Rattle.ct_journal_text.specs.declared.lines.EntryLine.{EntryLine}
use Rattle.ct_journal_text.specs.declared.lines.JournalLine.{JournalLine}
use Rattle.ct_journal_text.specs.declared.lines.JournalLine.TheVariants as Line
use Rattle.ct_journal_text.specs.Journal.{EntriesFit, EntryFits, Says, entry_lines, full_line, journal_line_text, journal_of, noted}
use Rattle.ct_journal_text.specs.Checked.{IsDoneLine, TakesEntryOr, TakesLine}
use Rattle.ct_journal_text.specs.declared.check.Step.TheVariants as Step
use Rattle.ct_journal_text.specs.Found.{IsRefusedBehind, LacksFirst}
use Rattle.ct_explain.specs.declared.why.Why.{Why}
use Rattle.ct_explain.specs.declared.why.Why.TheVariants.{NoLine}
use Rattle.ct_explain.specs.declared.reading.Reading.{Reading}
use Rattle.ct_explain.specs.declared.reading.Reading.TheVariants.{Whole, Broken}
use Rattle.ct_explain.specs.declared.reading.Taken.{Taken}
use Rattle.ct_explain.specs.declared.reading.Taken.TheVariants.{GoesOn, Ends, IsBad}
use Rattle.ct_explain.specs.Reasons.{first_reason}

-- the text is the journal of this history, which is complete and legal, with its numbers in their ranges
pub record IsJournalOfRun (plan : PlanParts) (text : List ℕ) (entries : List Entry) : Type 0 where
  pub text_is : text ≡ journal_of entries
  pub fit : EntriesFit entries
  pub legal : is_legal plan entries ≡ true
  pub complete : IsComplete plan entries

-- why a line is refused behind these entries, by what it says
abbrev pub IsWhy : PlanParts → List Entry → List ℕ → Why → Type 0
IsWhy plan front line why =
    (said : Option JournalLine) × Says line said × (why ≡ first_reason plan front said)

-- why a line is refused behind these entries: by what it says or, where it lacks its line feed, as no line of
-- a journal
abbrev pub IsWhyAt : PlanParts → List Entry → List ℕ → List ℕ → Why → Type 0
IsWhyAt plan front line [] why = why ≡ NoLine
IsWhyAt plan front line (byte ∷ rest) why = IsWhy plan front line why

-- behind the first line of a journal, the line with this number is the first that is not good, for this
-- reason
pub record IsRefusedWhy (plan : PlanParts) (text : List ℕ) (number : ℕ) (why : Why) : Type 0 where
  pub refused : IsRefusedBehind plan text number
  pub reason : IsWhyAt plan refused.entries refused.line refused.rest why

-- the line with this number is the first of the text that is not good, for this reason
pub record IsBrokenAt (plan : PlanParts) (text : List ℕ) (number : ℕ) (why : Why) : Type 0 where
  pub rest : List ℕ
  pub text_is : text ≡ full_line Line.First ++ rest
  pub behind : IsRefusedWhy plan rest number why

-- what a text is found to be
abbrev pub ReadsAs : PlanParts → List ℕ → Reading → Type 0
ReadsAs plan text (Whole entries) = IsJournalOfRun plan text entries
ReadsAs plan text (Broken line why) =
    ((line ≡ 1) × (why ≡ NoLine) × LacksFirst text) ⊎ IsBrokenAt plan text line why

-- the text behind the first line of a journal ends that of this history, which is complete and legal
pub record IsRunBehind (plan : PlanParts) (text : List ℕ) (entries : List Entry) : Type 0 where
  pub text_is : text ≡ entry_lines entries ++ full_line (Line.Done (length entries))
  pub fit : EntriesFit entries
  pub legal : is_legal plan entries ≡ true
  pub complete : IsComplete plan entries

-- what the text behind the first line of a journal is found to be
abbrev pub ReadsBehind : PlanParts → List ℕ → Reading → Type 0
ReadsBehind plan text (Whole entries) = IsRunBehind plan text entries
ReadsBehind plan text (Broken line why) = IsRefusedWhy plan text line why

-- what a last line of this many entries is found to be: it ends the text, or it is refused
abbrev pub EndsAs : PlanParts → List Entry → List ℕ → Bool → Reading → Type 0
EndsAs plan entries line ends (Whole others) = (ends ≡ true) × (others ≡ entries)
EndsAs plan entries line ends (Broken number why) =
    (ends ≡ false) × (number ≡ length entries + 2) × IsWhy plan entries line why

-- the line is that of this entry, which is allowed, and which the audit has now seen besides
pub record TakesThis (plan : PlanParts) (front : List Entry) (line : List ℕ) (entry : Entry) (audit : Audit)
    : Type 0 where
  pub is : line ≡ journal_line_text (Line.Entry (noted entry))
  pub fits : EntryFits (noted entry)
  pub allowed : is_allowed plan front entry ≡ true
  pub audited : IsAuditOf plan (front ++ entry ∷ []) audit

-- what a line does behind these entries: it is that of one entry more, it is the last line, or it is not good
abbrev pub TakesAs : PlanParts → List Entry → List ℕ → Taken → Audit → Type 0
TakesAs plan front line (GoesOn entry) audit = TakesThis plan front line entry audit
TakesAs plan front line Ends audit = TakesLine plan front line Step.Ends audit × IsAuditOf plan front audit
TakesAs plan front line IsBad audit = TakesLine plan front line Step.IsBad audit × IsAuditOf plan front audit

-- what the line of an entry does behind these entries
abbrev pub TakesEntryAs : PlanParts → List Entry → EntryLine → Taken → Audit → Type 0
TakesEntryAs plan front line (GoesOn entry) audit =
    (line ≡ noted entry) × (is_allowed plan front entry ≡ true) × IsAuditOf plan (front ++ entry ∷ []) audit
TakesEntryAs plan front line Ends audit = ⊥
TakesEntryAs plan front line IsBad audit =
    TakesEntryOr plan front line Step.IsBad audit × IsAuditOf plan front audit

-- the entry is allowed, is kept, and the audit has seen it besides; or it is not allowed
abbrev pub NotesAs : PlanParts → List Entry → Entry → Taken → Audit → Type 0
NotesAs plan front e (GoesOn entry) audit =
    (entry ≡ e) × (is_allowed plan front entry ≡ true) × IsAuditOf plan (front ++ entry ∷ []) audit
NotesAs plan front e Ends audit = ⊥
NotesAs plan front e IsBad audit = (is_allowed plan front e ≡ false) × IsAuditOf plan front audit

-- what a number of entries does behind these entries: it ends their journal, or it does not
abbrev pub IsDoneAs : PlanParts → List Entry → ℕ → Taken → Type 0
IsDoneAs plan front entries (GoesOn entry) = ⊥
IsDoneAs plan front entries Ends = IsDoneLine plan front entries Step.Ends
IsDoneAs plan front entries IsBad = IsDoneLine plan front entries Step.IsBad
