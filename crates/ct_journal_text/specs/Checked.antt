-- What a line of a journal does behind the lines in front of it. This project's own.
use Rattle.std.specs.Prelude.{ℕ, ◌≡◌, ◌↔◌, ⊤, true, false, List, [], ◌∷◌, ◌++◌, length, Option, Some, None, IsSomeAnd}
use Rattle.ct_base.specs.declared.defs.Resource.{Resource}
use Rattle.ct_alloc.specs.declared.placement.Placement.{Placement}
use Rattle.ct_alloc.specs.Placement.{is_placement}
use Rattle.ct_history.specs.declared.plan.PlanTest.{PlanTest}
use Rattle.ct_history.specs.declared.plan.PlanParts.{PlanParts}
use Rattle.ct_history.specs.declared.history.Entry.{Entry}
use Rattle.ct_history.specs.declared.history.Entry.TheVariants as Happened
use Rattle.ct_history.specs.Plan.{test_at}
use Rattle.ct_history.specs.Legal.{is_allowed}
use Rattle.ct_history.specs.declared.audit.Audit.{Audit}
use Rattle.ct_history.specs.Audited.{IsAuditOf, is_at_end}
use Rattle.ct_journal_text.specs.declared.lines.EntryLine.{EntryLine}
use Rattle.ct_journal_text.specs.declared.lines.JournalLine.TheVariants as Line
use Rattle.ct_journal_text.specs.declared.check.Step.{Step}
use Rattle.ct_journal_text.specs.declared.check.Step.TheVariants.{GoesOn, Ends, IsBad}
use Rattle.ct_journal_text.specs.Journal.{EntryFits, journal_line_text, noted, places_of_placement}

-- the picks are a placement for the needs of this test on these resources
abbrev pub IsPlacementFor : Option (List Resource) → Option PlanTest → Placement → Type 0
IsPlacementFor resources test p =
    IsSomeAnd resources (λ rs. IsSomeAnd test (λ (t : PlanTest). is_placement rs t.needs p.picks ≡ true))

-- the placement of the entry, where it has one, is one for the needs of its test
abbrev pub HasPlacement : PlanParts → Entry → Type 0
HasPlacement plan (Happened.Start t a w None) = ⊤
HasPlacement plan (Happened.Start t a w (Some p)) = IsPlacementFor plan.resources (test_at plan.tests t) p
HasPlacement plan (Happened.End t a w seen) = ⊤
HasPlacement plan (Happened.Settle t cause) = ⊤
HasPlacement plan Happened.Stop = ⊤

-- an entry is found exactly where the line is that entry's, and its placement is one for its test's needs
abbrev pub FindsEntry : PlanParts → EntryLine → Option Entry → Type 0
FindsEntry plan line found = (e : Entry) → (found ≡ Some e) ↔ ((line ≡ noted e) × HasPlacement plan e)

-- the line, without its line feed, is that of no entry that is allowed behind these entries
abbrev pub IsNoEntry : PlanParts → List Entry → List ℕ → Type 0
IsNoEntry plan front line =
    (e : Entry) → EntryFits (noted e) → is_allowed plan front e ≡ true
    → line ≡ journal_line_text (Line.Entry (noted e)) → ⊥

-- the line, without its line feed, is not the last line of a history that is at its end
abbrev pub IsNoEnd : PlanParts → List Entry → List ℕ → Type 0
IsNoEnd plan front line =
    line ≡ journal_line_text (Line.Done (length front)) → is_at_end plan front ≡ true → ⊥

-- the line is that of an allowed entry, which the audit has now seen besides
pub record TakesEntry (plan : PlanParts) (front : List Entry) (line : List ℕ) (audit : Audit) : Type 0 where
  pub entry : Entry
  pub is : line ≡ journal_line_text (Line.Entry (noted entry))
  pub fits : EntryFits (noted entry)
  pub allowed : is_allowed plan front entry ≡ true
  pub audited : IsAuditOf plan (front ++ entry ∷ []) audit

-- what a line does behind these entries: it is that of one entry more, it is the last line, or it is not good
abbrev pub TakesLine : PlanParts → List Entry → List ℕ → Step → Audit → Type 0
TakesLine plan front line GoesOn audit = TakesEntry plan front line audit
TakesLine plan front line Ends audit =
    (line ≡ journal_line_text (Line.Done (length front))) × (is_at_end plan front ≡ true)
TakesLine plan front line IsBad audit = IsNoEntry plan front line × IsNoEnd plan front line

-- a placement is found exactly where it is one for the needs of the test, and its resources have these places
abbrev pub FindsPlacement : Option (List Resource) → Option PlanTest → List ℕ → Option Placement → Type 0
FindsPlacement resources test places found =
    (p : Placement) → (found ≡ Some p) ↔ (IsPlacementFor resources test p × (places ≡ places_of_placement p))

-- the entry is allowed and the audit has seen it besides, or it is not allowed
abbrev pub NotesLine : PlanParts → List Entry → Entry → Step → Audit → Type 0
NotesLine plan front e GoesOn audit =
    (is_allowed plan front e ≡ true) × IsAuditOf plan (front ++ e ∷ []) audit
NotesLine plan front e Ends audit = ⊥
NotesLine plan front e IsBad audit = is_allowed plan front e ≡ false

-- what the line of an entry does behind these entries
abbrev pub TakesEntryOr : PlanParts → List Entry → EntryLine → Step → Audit → Type 0
TakesEntryOr plan front line GoesOn audit =
    (e : Entry)
    × (line ≡ noted e)
    × (is_allowed plan front e ≡ true)
    × IsAuditOf plan (front ++ e ∷ []) audit
TakesEntryOr plan front line Ends audit = ⊥
TakesEntryOr plan front line IsBad audit = (e : Entry) → is_allowed plan front e ≡ true → line ≡ noted e → ⊥

-- what a number of entries does behind these entries: it ends their journal, or it does not
abbrev pub IsDoneLine : PlanParts → List Entry → ℕ → Step → Type 0
IsDoneLine plan front entries GoesOn = ⊥
IsDoneLine plan front entries Ends = (entries ≡ length front) × (is_at_end plan front ≡ true)
IsDoneLine plan front entries IsBad = entries ≡ length front → is_at_end plan front ≡ true → ⊥
