-- The journal of a run: its lines, and what each of them says. The form is this project's own.
use Rattle.std.specs.Prelude.{ℕ, ℤ, pos, negsuc, ◌+◌, ◌<◌, ◌^◌, ◌≡◌, ◌↔◌, ⊤, Bool, true, false, List, [], ◌∷◌, ◌++◌, length, map, flat_map, codes, decimal, Option, Some, None, option_map}
use Rattle.std.specs.Fmt.{signed_decimal}
use Rattle.std.specs.List.{AllByRecursion}
use Rattle.ct_base.specs.Bytes.{zero_digit}
use Rattle.ct_alloc.specs.declared.placement.Pick.{Pick}
use Rattle.ct_alloc.specs.declared.placement.Placement.{Placement}
use Rattle.ct_verdict.specs.declared.attempt.How.{How}
use Rattle.ct_verdict.specs.declared.attempt.How.TheVariants.{Exited, Signalled, TimedOut, NotStarted, Lacks, NoMemory}
use Rattle.ct_verdict.specs.declared.attempt.Seen.{Seen}
use Rattle.ct_verdict.specs.declared.verdict.Cause.{Cause}
use Rattle.ct_verdict.specs.declared.verdict.Cause.TheVariants as Why
use Rattle.ct_history.specs.declared.history.Entry.{Entry}
use Rattle.ct_history.specs.declared.history.Entry.TheVariants as Happened
use Rattle.ct_journal_text.specs.declared.lines.EntryLine.{EntryLine}
use Rattle.ct_journal_text.specs.declared.lines.EntryLine.TheVariants.{Start, End, Settle, Stop}
use Rattle.ct_journal_text.specs.declared.lines.JournalLine.{JournalLine}
use Rattle.ct_journal_text.specs.declared.lines.JournalLine.TheVariants as Line

-- how an attempt ended, as a word
abbrev pub how_text : How → List ℕ
how_text (Exited code) = codes "exit:" ++ signed_decimal code
how_text Signalled = codes "signal"
how_text TimedOut = codes "timeout"
how_text NotStarted = codes "unstarted"
how_text (Lacks place) = codes "lacks:" ++ decimal place
how_text NoMemory = codes "memory"

-- why a test did not run, as a word
abbrev pub not_run_word : Cause → List ℕ
not_run_word Why.Unstarted = codes "unstarted"
not_run_word (Why.Lacks place) = codes "lacks:" ++ decimal place
not_run_word (Why.Fixture setup) = codes "fixture:" ++ decimal setup
not_run_word Why.NotAvailable = codes "notavailable"
not_run_word (Why.BadOperation place) = codes "badoperation:" ++ decimal place
not_run_word Why.Insufficient = codes "insufficient"
not_run_word Why.Stopped = codes "stopped"
not_run_word Why.Memory = codes "memory"

-- the digit of a hit: 1, and 0 where there is none
abbrev pub hit_digit : Bool → ℕ
hit_digit true = zero_digit + 1
hit_digit false = zero_digit

-- the hits of the patterns for fail, pass and skip, as a word of three digits
abbrev pub hits_text : Seen → List ℕ
hits_text seen = hit_digit seen.fail_hit ∷ hit_digit seen.pass_hit ∷ hit_digit seen.skip_hit ∷ []

-- the places of resources with commas between them
abbrev pub listed : List ℕ → List ℕ
listed [] = []
listed (place ∷ places) = decimal place ++ flat_map (λ other. codes "," ++ decimal other) places

-- what a line says of a placement, where there is one
abbrev pub places_text : Option (List ℕ) → List ℕ
places_text None = []
places_text (Some places) = codes " at " ++ listed places

-- the front of a line that speaks of an attempt: a name, test, attempt and worker
abbrev pub attempt_text : List ℕ → ℕ → ℕ → ℕ → List ℕ
attempt_text name test attempt worker =
    name ++ decimal test ++ codes " " ++ decimal attempt ++ codes " " ++ decimal worker

-- what was seen of an attempt, as three words
abbrev pub seen_text : Seen → List ℕ
seen_text seen =
    codes " " ++ how_text seen.how ++ codes " " ++ hits_text seen ++ codes " " ++ decimal seen.micros

-- the line of an entry, without its line feed
abbrev pub entry_text : EntryLine → List ℕ
entry_text (Start test attempt worker places) =
    attempt_text (codes "start ") test attempt worker ++ places_text places
entry_text (End test attempt worker seen) = attempt_text (codes "end ") test attempt worker ++ seen_text seen
entry_text (Settle test cause) = codes "settle " ++ decimal test ++ codes " " ++ not_run_word cause
entry_text Stop = codes "stop"

-- a line of a journal, without its line feed
abbrev pub journal_line_text : JournalLine → List ℕ
journal_line_text Line.First = codes "ct-journal 1"
journal_line_text (Line.Entry entry) = entry_text entry
journal_line_text (Line.Done count) = codes "done " ++ decimal count

-- a line of a journal, with its line feed
abbrev pub full_line : JournalLine → List ℕ
full_line line = journal_line_text line ++ codes "\n"

-- the places of the resources of a placement
abbrev pub places_of_placement : Placement → List ℕ
places_of_placement placement = map (λ (pick : Pick). pick.resource) placement.picks

-- what a journal says of an entry: all of it, but of a placement the places of its resources alone
abbrev pub noted : Entry → EntryLine
noted (Happened.Start test attempt worker placement) =
    Start test attempt worker (option_map places_of_placement placement)
noted (Happened.End test attempt worker seen) = End test attempt worker seen
noted (Happened.Settle test cause) = Settle test cause
noted Happened.Stop = Stop

-- the lines of these entries
abbrev pub entry_lines : List Entry → List ℕ
entry_lines entries = flat_map (λ (entry : Entry). full_line (Line.Entry (noted entry))) entries

-- the journal of a history: its first line, a line for each entry, and its last line with the number of
-- entries
abbrev pub journal_of : List Entry → List ℕ
journal_of entries = full_line Line.First ++ entry_lines entries ++ full_line (Line.Done (length entries))

-- a number of 32 bits
abbrev pub IsOf32Bits : ℕ → Type 0
IsOf32Bits number = number < 2 ^ 32

-- an exit code of 32 bits, with its sign
abbrev pub IsCode : ℤ → Type 0
IsCode (pos number) = number < 2 ^ 31
IsCode (negsuc number) = number < 2 ^ 31

-- the numbers in how an attempt ended are in their ranges
abbrev pub HowFits : How → Type 0
HowFits (Exited code) = IsCode code
HowFits (Lacks place) = IsOf32Bits place
HowFits _ = ⊤

-- the numbers in a cause are in their ranges
abbrev pub CauseFits : Cause → Type 0
CauseFits (Why.Lacks place) = IsOf32Bits place
CauseFits (Why.Fixture setup) = IsOf32Bits setup
CauseFits (Why.BadOperation place) = IsOf32Bits place
CauseFits _ = ⊤

-- the places of a placement are in their range, where there is one
abbrev pub PlacesFit : Option (List ℕ) → Type 0
PlacesFit None = ⊤
PlacesFit (Some places) = AllByRecursion IsOf32Bits places

-- the numbers of an entry's line are in their ranges
abbrev pub EntryFits : EntryLine → Type 0
EntryFits (Start test attempt worker places) =
    IsOf32Bits test × IsOf32Bits attempt × IsOf32Bits worker × PlacesFit places
EntryFits (End test attempt worker seen) =
    IsOf32Bits test × IsOf32Bits attempt × IsOf32Bits worker × HowFits seen.how × (seen.micros < 2 ^ 64)
EntryFits (Settle test cause) = IsOf32Bits test × CauseFits cause
EntryFits Stop = ⊤

-- the numbers of these entries are in their ranges
abbrev pub EntriesFit : List Entry → Type 0
EntriesFit entries = AllByRecursion (λ (entry : Entry). EntryFits (noted entry)) entries

-- the numbers of a line are in the ranges of their types
abbrev pub Fits : JournalLine → Type 0
Fits Line.First = ⊤
Fits (Line.Entry entry) = EntryFits entry
Fits (Line.Done count) = count < 2 ^ 64

-- a text says a line exactly where it is that line, with the numbers in their ranges; any other text says
-- none
abbrev pub Says : List ℕ → Option JournalLine → Type 0
Says text said = (line : JournalLine) → (said ≡ Some line) ↔ (Fits line × (text ≡ journal_line_text line))
