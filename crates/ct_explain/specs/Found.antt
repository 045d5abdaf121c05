-- What is found of a journal that is explained, and the lines that are put for it. This project's own.
use Rattle.std.specs.Prelude.{◌≡◌, ℕ, Bool, true, false, List, [], ◌∷◌, ◌++◌, codes, decimal, Option, Some, None}
use Rattle.ct_history.specs.declared.plan.PlanParts.{PlanParts}
use Rattle.ct_journal.specs.File.{too_long_line}
use Rattle.ct_journal.specs.CheckFound.{IsBadJournal, IsGoodJournal, IsLongJournal}
use Rattle.ct_explain.specs.declared.why.Why.{Why}
use Rattle.ct_explain.specs.declared.why.Why.TheVariants.{NoLine}
use Rattle.ct_explain.specs.declared.reading.Reading.TheVariants.{Broken}
use Rattle.ct_explain.specs.declared.story.Story.{Story}
use Rattle.ct_explain.specs.declared.find.Finding.{Finding}
use Rattle.ct_explain.specs.declared.find.Finding.TheVariants.{Told, Refused, TooLong}
use Rattle.ct_explain.specs.Reading.{IsJournalOfRun, ReadsAs}
use Rattle.ct_explain.specs.Story.{IsStory}
use Rattle.ct_explain.specs.Texts.{why_text}
use Rattle.ct_explain.specs.Report.{explanation_lines}
use Rattle.ct_explain.specs.Picture.{picture_lines}

-- the lines that are put of a story: the picture where it is asked for, else the report
abbrev pub story_lines : Bool → PlanParts → Story → List (List ℕ)
story_lines true plan story = picture_lines plan story
story_lines false plan story = explanation_lines plan story

-- the line that is printed for a journal whose line with this number is refused for this reason
abbrev pub refusal_line : PlanParts → ℕ → Why → List ℕ
refusal_line plan line why =
    codes "journal refused at line " ++ decimal line ++ codes ": " ++ why_text plan why ++ codes "\n"

-- the text that was read is the journal of a complete legal history, and this is the story of that history
abbrev pub IsStoryOfText : PlanParts → Option (List ℕ) → Story → Type 0
IsStoryOfText plan None story = ⊥
IsStoryOfText plan (Some text) story =
    IsJournalOfRun plan text story.entries × IsStory plan story.entries story

-- the line of what was read is refused for this reason. An absent file has no line of a journal
abbrev pub IsRefusedSo : PlanParts → Option (List ℕ) → ℕ → Why → Type 0
IsRefusedSo plan None line why = why ≡ NoLine
IsRefusedSo plan (Some text) line why = ReadsAs plan text (Broken line why)

-- what is found of what was read of a journal
abbrev pub IsFoundOf : PlanParts → Option (List ℕ) → Finding → Type 0
IsFoundOf plan read (Told story) = IsGoodJournal plan read × IsStoryOfText plan read story
IsFoundOf plan read (Refused line why) = IsBadJournal plan read line × IsRefusedSo plan read line why
IsFoundOf plan read TooLong = IsLongJournal read

-- the lines that are put for what is found
abbrev pub finding_lines : Bool → PlanParts → Finding → List (List ℕ)
finding_lines picture plan (Told story) = story_lines picture plan story
finding_lines picture plan (Refused line why) = refusal_line plan line why ∷ []
finding_lines picture plan TooLong = too_long_line ∷ []
