-- Whether a text is the journal of a complete legal history, and else which of its lines is the first that
-- is not good. This project's own.
use Rattle.std.specs.Prelude.{ℕ, ◌+◌, ◌≤◌, ◌≡◌, ◌⊎◌, ⊤, true, false, List, [], ◌∷◌, ◌++◌, length, drop, Option, Some, None, ◌==◌}
use Rattle.std.specs.List.{list_any}
use Rattle.ct_base.specs.Bytes.{line_feed}
use Rattle.ct_history.specs.declared.plan.PlanParts.{PlanParts}
use Rattle.ct_history.specs.declared.history.Entry.{Entry}
use Rattle.ct_history.specs.Legal.{IsComplete, is_allowed_so_far, is_legal}
use Rattle.ct_history.specs.declared.audit.Audit.{Audit}
use Rattle.ct_history.specs.Audited.{IsAuditOf, is_at_end}
use Rattle.ct_journal_text.specs.declared.lines.JournalLine.TheVariants as Line
use Rattle.ct_journal_text.specs.Journal.{EntriesFit, entry_lines, full_line, journal_of, journal_line_text}
use Rattle.ct_journal_text.specs.Checked.{IsNoEntry}

-- the text is the journal of a complete legal history, whose numbers are in their ranges
pub record IsAccepted (plan : PlanParts) (text : List ℕ) : Type 0 where
  pub entries : List Entry
  pub text_is : text ≡ journal_of entries
  pub fit : EntriesFit entries
  pub legal : is_legal plan entries ≡ true
  pub complete : IsComplete plan entries

-- no byte of the line is a line feed
abbrev pub IsOneLine : List ℕ → Type 0
IsOneLine line = list_any (λ (byte : ℕ). byte == line_feed) line ≡ false

-- the line, with the rest of the text behind it, is not good behind these entries: it lacks its line feed;
-- or it is neither the line of an allowed entry, nor the last line of a history at its end and of the text
abbrev pub IsBadLine : PlanParts → List Entry → List ℕ → List ℕ → Type 0
IsBadLine plan entries line [] = ⊤
IsBadLine plan entries line (byte ∷ rest) =
    (byte ≡ line_feed)
    × IsNoEntry plan entries line
    × (line ≡ journal_line_text (Line.Done (length entries)) → is_at_end plan entries ≡ true → rest ≡ [] → ⊥)

-- the text is the lines of these entries, each allowed behind those in front and with its numbers in their
-- ranges, then this line, then the rest
pub record StandsAt (plan : PlanParts) (text : List ℕ) (entries : List Entry) (line rest : List ℕ)
    : Type 0 where
  pub fit : EntriesFit entries
  pub allowed : is_allowed_so_far plan entries ≡ true
  pub text_is : text ≡ entry_lines entries ++ (line ++ rest)
  pub one : IsOneLine line

-- behind the first line of a journal, the line with this number is the first that is not good
pub record IsRefusedBehind (plan : PlanParts) (text : List ℕ) (number : ℕ) : Type 0 where
  pub entries : List Entry
  pub line : List ℕ
  pub rest : List ℕ
  pub stands : StandsAt plan text entries line rest
  pub bad : IsBadLine plan entries line rest
  pub number_is : number ≡ length entries + 2

-- the text behind the first line of a journal ends it, for a complete legal history
pub record IsAcceptedBehind (plan : PlanParts) (text : List ℕ) : Type 0 where
  pub entries : List Entry
  pub text_is : text ≡ entry_lines entries ++ full_line (Line.Done (length entries))
  pub fit : EntriesFit entries
  pub legal : is_legal plan entries ≡ true
  pub complete : IsComplete plan entries

-- what the text behind the first line of a journal is found to be
abbrev pub FindsBehind : PlanParts → List ℕ → Option ℕ → Type 0
FindsBehind plan text None = IsAcceptedBehind plan text
FindsBehind plan text (Some number) = IsRefusedBehind plan text number

-- the text does not begin with the first line of a journal and its line feed
abbrev pub LacksFirst : List ℕ → Type 0
LacksFirst text = (rest : List ℕ) → text ≡ full_line Line.First ++ rest → ⊥

-- the line with this number is the first of the text that is not good
pub record IsRefusedAt (plan : PlanParts) (text : List ℕ) (number : ℕ) : Type 0 where
  pub rest : List ℕ
  pub text_is : text ≡ full_line Line.First ++ rest
  pub behind : IsRefusedBehind plan rest number

-- the text is accepted; or its first line is not good; or a later line is the first that is not
abbrev pub Finds : PlanParts → List ℕ → Option ℕ → Type 0
Finds plan text None = IsAccepted plan text
Finds plan text (Some number) = ((number ≡ 1) × LacksFirst text) ⊎ IsRefusedAt plan text number

-- the text is found to be this, and nothing else: no text is accepted and refused, or refused at two lines
abbrev pub IsSoleFinding : PlanParts → List ℕ → Option ℕ → Type 0
IsSoleFinding plan text found = (other : Option ℕ) → Finds plan text other → found ≡ other

-- so far, the audit has seen the entries whose lines were read, and the rest of the text stands behind them
pub record IsReading (plan : PlanParts) (text : List ℕ) (at : ℕ) (audit : Audit) (line : List ℕ) (count : ℕ)
    (entries : List Entry) : Type 0 where
  pub audited : IsAuditOf plan entries audit
  pub stands : StandsAt plan text entries line (drop at text)
  pub count_is : count ≡ length entries
  pub few : count ≤ at
