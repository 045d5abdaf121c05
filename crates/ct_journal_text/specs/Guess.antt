-- Which line a text could be. A guess takes the words of the text as they come, and is right where its line
-- is the text.
use Rattle.std.specs.Prelude.{ℕ, ℤ, pos, neg_ℤ, ◌+◌, ◌-◌, ◌*◌, ◌^◌, min, Bool, ◌&&◌, List, [], ◌∷◌, take, drop, length, map, fold, get_or, nat_lt, bytes_eq, codes, Option, Some, None, ◌==◌, if◌then◌else◌}
use Rattle.std.specs.List.{slice_split}
use Rattle.ct_base.specs.Bytes.{comma, minus, space, zero_digit}
use Rattle.ct_verdict.specs.declared.attempt.How.{How}
use Rattle.ct_verdict.specs.declared.attempt.How.TheVariants.{Exited, Signalled, TimedOut, NotStarted, Lacks, NoMemory}
use Rattle.ct_verdict.specs.declared.attempt.Seen.{Seen}
use Rattle.ct_verdict.specs.declared.verdict.Cause.{Cause}
use Rattle.ct_verdict.specs.declared.verdict.Cause.TheVariants as Why
use Rattle.ct_journal_text.specs.declared.lines.EntryLine.{EntryLine}
use Rattle.ct_journal_text.specs.declared.lines.EntryLine.TheVariants.{Start, End, Settle, Stop}
use Rattle.ct_journal_text.specs.declared.lines.JournalLine.{JournalLine}
use Rattle.ct_journal_text.specs.declared.lines.JournalLine.TheVariants as Line
use Rattle.ct_journal_text.specs.Journal.{journal_line_text}

-- the pieces of a text between the bytes that separate them
abbrev pub pieces : ℕ → List ℕ → List (List ℕ)
pieces separator text = slice_split (λ byte. byte == separator) text

-- the word at a place, from 0; none is empty
abbrev pub word_at : List (List ℕ) → ℕ → List ℕ
word_at words place = get_or words place []

-- the greatest number of 64 bits
abbrev pub most : ℕ
most = 2 ^ 64 - 1

-- a number with the digit of one byte more behind it, kept at most at the greatest
abbrev pub with_digit : ℕ → ℕ → ℕ
with_digit number byte = min (min (number * 10) most + (byte - zero_digit)) most

-- the number that a text of digits writes
abbrev pub number_written : List ℕ → ℕ
number_written text = fold with_digit 0 text

-- the number that a text of digits writes, kept at most at the greatest number of 32 bits
abbrev pub short_in : List ℕ → ℕ
short_in text = min (number_written text) (2 ^ 32 - 1)

-- the exit code that a text of a sign and digits writes, kept in its range
abbrev pub code_written : List ℕ → ℤ
code_written [] = pos 0
code_written (first ∷ rest) =
    if first == minus
    then neg_ℤ (pos (min (number_written rest) (2 ^ 31)))
    else pos (min (number_written (first ∷ rest)) (2 ^ 31 - 1))

-- how an attempt ended, by its word
abbrev pub how_in : List ℕ → How
how_in word =
    if bytes_eq word (codes "signal") then Signalled
    else if bytes_eq word (codes "timeout") then TimedOut
    else if bytes_eq word (codes "unstarted") then NotStarted
    else if bytes_eq word (codes "memory") then NoMemory
    else if bytes_eq (take 6 word) (codes "lacks:") then Lacks (short_in (drop 6 word))
    else Exited (code_written (drop 5 word))

-- the cause with a number, by its word
abbrev pub numbered_cause_in : List ℕ → Cause
numbered_cause_in word =
    if bytes_eq (take 6 word) (codes "lacks:") then Why.Lacks (short_in (drop 6 word))
    else if bytes_eq (take 8 word) (codes "fixture:") then Why.Fixture (short_in (drop 8 word))
    else Why.BadOperation (short_in (drop 13 word))

-- why a test did not run, by its word
abbrev pub cause_in : List ℕ → Cause
cause_in word =
    if bytes_eq word (codes "unstarted") then Why.Unstarted
    else if bytes_eq word (codes "notavailable") then Why.NotAvailable
    else if bytes_eq word (codes "insufficient") then Why.Insufficient
    else if bytes_eq word (codes "stopped") then Why.Stopped
    else if bytes_eq word (codes "memory") then Why.Memory
    else numbered_cause_in word

-- the hit at a place of a word of hits
abbrev pub hit_in : List ℕ → ℕ → Bool
hit_in word place = nat_lt place (length word) && get_or word place 0 == zero_digit + 1

-- what was seen of an attempt, by the words of its line
abbrev pub seen_in : List (List ℕ) → Seen
seen_in words =
    record {
      how = how_in (word_at words 4);
      fail_hit = hit_in (word_at words 5) 0;
      pass_hit = hit_in (word_at words 5) 1;
      skip_hit = hit_in (word_at words 5) 2;
      micros = number_written (word_at words 6);
    }

-- the places of resources, by their word
abbrev pub places_in_word : List ℕ → List ℕ
places_in_word word = if length word == 0 then [] else map short_in (pieces comma word)

-- the places of the resources of a placement, by the words of a start
abbrev pub placement_in : List (List ℕ) → Option (List ℕ)
placement_in words = if nat_lt 4 (length words) then Some (places_in_word (word_at words 5)) else None

-- the start of an attempt, by the words of its line
abbrev pub start_in : List (List ℕ) → EntryLine
start_in words =
    Start (short_in (word_at words 1)) (short_in (word_at words 2)) (short_in (word_at words 3))
    (placement_in words)

-- the end of an attempt, by the words of its line
abbrev pub end_in : List (List ℕ) → EntryLine
end_in words =
    End (short_in (word_at words 1)) (short_in (word_at words 2)) (short_in (word_at words 3)) (seen_in words)

-- what settles a test, by the words of its line
abbrev pub settle_in : List (List ℕ) → EntryLine
settle_in words = Settle (short_in (word_at words 1)) (cause_in (word_at words 2))

-- the line that these words could be, by the first of them
abbrev pub guess_by : List (List ℕ) → JournalLine
guess_by words =
    if bytes_eq (word_at words 0) (codes "start") then Line.Entry (start_in words)
    else if bytes_eq (word_at words 0) (codes "end") then Line.Entry (end_in words)
    else if bytes_eq (word_at words 0) (codes "settle") then Line.Entry (settle_in words)
    else if bytes_eq (word_at words 0) (codes "stop") then Line.Entry Stop
    else if bytes_eq (word_at words 0) (codes "done") then Line.Done (number_written (word_at words 1))
    else Line.First

-- the line that a text could be
abbrev pub guess_in : List ℕ → JournalLine
guess_in text = guess_by (pieces space text)

-- the guess, where it is right
abbrev pub said_in : List ℕ → Option JournalLine
said_in text = if bytes_eq (journal_line_text (guess_in text)) text then Some (guess_in text) else None
